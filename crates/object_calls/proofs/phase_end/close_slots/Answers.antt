use Rattle.std.proofs.Common.{◌≡◌, ◌∙◌, ◌+◌, ℕ, suc, option_map, sym, ap, subst, arith}
use Rattle.disk_model.specs.State.{FileState}
use Rattle.tee_types.specs.Limits.{last_file, old_directory_file}
use Rattle.history_seats.specs.Views.{GateView}
use Rattle.store_commit.specs.Gates.{DoubtStands, GateValue, gate_sides}
use Rattle.store_commit.specs.Holds.{AreHolds}
use Rattle.serial_calls.specs.Journals.{JournalValue}
use Rattle.serial_calls.specs.GuardedGates.{GuardedGateValue}
use Rattle.object_calls.specs.OpeningFiles.{files_of}
use Rattle.object_calls.specs.FinishedPhase.{HaveCounted}
use Rattle.object_calls.specs.Retiring.{IsPlaced}
use Rattle.object_calls.proofs.Files.{object_numbered, spare_here}
use Rattle.object_calls.proofs.LeftStores.{leaves_parts}
use Rattle.object_calls.proofs.Placings.{placed_taken}
use Rattle.object_calls.proofs.Retirings.{IsSameHistory, placed_back, recorded_back, sessions_same}
use Rattle.object_calls.proofs.phase_end.close_slots.Goals as goal

pub returns-clause-counted : goal.returns-clause-counted
returns-clause-counted g c =
    subst (λ (j : JournalValue). HaveCounted {E = g.row.E.Denot} j.knows c.args.sessions.items) c.into_parts-gate.ensures.journal c.retire_sessions.ensures.counted

pub returns-clause-dir : goal.returns-clause-dir
returns-clause-dir g c =
    c.put_together-files.ensures.dir
    ∙ ap g.F.StoreFile.state (ap (λ p. p.0) c.close-dir.ensures.gives ∙ ap (λ (x : GateValue g.row.F.Denot g.row.R.Denot). x.dir.file) c.into_parts-gate.ensures.gate)

pub returns-clause-spare : goal.returns-clause-spare
returns-clause-spare g c =
    ap (λ (f : ℕ → FileState). f old_directory_file) c.put_together-files.ensures.files
    ∙ spare_here g.F.StoreFile.state c.args.spare c.close-dir.result.0 c.taken_files-files.result.items

pub returns-clause-placed : goal.returns-clause-placed
returns-clause-placed g c = λ i within.
    let state = g.F.StoreFile.state in
    let store = g.L.StoreName.store in
    let s : GuardedGateValue g.row.F.Denot g.row.R.Denot = c.args.gate in
    let later : GateView = c.retire_sessions.new.journal.knows in
    let same : IsSameHistory s.journal.knows later =
    subst (λ (j : JournalValue). IsSameHistory j.knows later) c.into_parts-gate.ensures.journal
    (sessions_same c.into_parts-gate.result.1 c.retire_sessions.new.journal later.sessions c.retire_sessions.ensures.journal) in
    let slots = c.args.slots.items in
    let files = c.taken_files-files.result.items in
    let next : i + 1 ≡ suc i = omega arith in
    subst (IsPlaced store s.journal.knows slots (i + 1))
    (sym (ap (files_of state c.put_together-files.result.items) next ∙ ap (λ (f : ℕ → FileState). f (suc i)) c.put_together-files.ensures.files
    ∙ object_numbered state c.args.spare c.close-dir.result.0 files (suc i) (omega arith, omega (arith, within))))
    (placed_back s.journal.knows later same store slots (i + 1) (files_of state files i)
    (placed_taken store later slots state last_file c.retire_slots-places.result.items files c.taken_files-files.ensures.files c.retire_slots-places.ensures.placed i within))

pub returns-clause-tagged : goal.returns-clause-tagged
returns-clause-tagged g c =
    let s : GuardedGateValue g.row.F.Denot g.row.R.Denot = c.args.gate in
    let later : GateView = c.retire_sessions.new.journal.knows in
    let same : IsSameHistory s.journal.knows later =
    subst (λ (j : JournalValue). IsSameHistory j.knows later) c.into_parts-gate.ensures.journal
    (sessions_same c.into_parts-gate.result.1 c.retire_sessions.new.journal later.sessions c.retire_sessions.ensures.journal) in
    (recorded_back s.journal.knows later same c.retire_slots-places.ensures.recorded).tagged

pub returns-clause-leaves : goal.returns-clause-leaves
returns-clause-leaves g c =
    let state = g.F.StoreFile.state in
    let port = g.R.RpmbPort.state in
    let store = g.L.StoreName.store in
    let s : GuardedGateValue g.row.F.Denot g.row.R.Denot = c.args.gate in
    let gate : GateValue g.row.F.Denot g.row.R.Denot = c.into_parts-gate.result.0 in
    let is : gate ≡ s.gate = c.into_parts-gate.ensures.gate in
    let later : GateView = c.retire_sessions.new.journal.knows in
    let same : IsSameHistory s.journal.knows later =
    subst (λ (j : JournalValue). IsSameHistory j.knows later) c.into_parts-gate.ensures.journal
    (sessions_same c.into_parts-gate.result.1 c.retire_sessions.new.journal later.sessions c.retire_sessions.ensures.journal) in
    let slots = c.args.slots.items in
    let files = c.taken_files-files.result.items in
    leaves_parts state port g.met.F.StoreFile.sound store s later c.into_parts-gate.ensures.tied c.requires.tagged same slots c.args.spare files
    (sym c.taken_files-files.result.ok.0 ∙ c.taken_files-files.ensures.len ∙ c.retire_slots-places.ensures.many)
    (placed_taken store later slots state last_file c.retire_slots-places.result.items files c.taken_files-files.ensures.files c.retire_slots-places.ensures.placed)
    c.retire_slots-places.ensures.recorded c.requires.opens
    (subst (λ (x : GateValue g.row.F.Denot g.row.R.Denot). DoubtStands (gate_sides state port x) x.doubt) is c.reveal_invariant.ensures.stands)
    (subst (λ (x : GateValue g.row.F.Denot g.row.R.Denot). AreHolds x.dir.dir.entries x.holds) is c.reveal_invariant.ensures.held)
    c.doubt-doubt.result (subst (λ (x : GateValue g.row.F.Denot g.row.R.Denot). c.doubt-doubt.result ≡ option_map (λ d. d.number) x.doubt) is c.doubt-doubt.ensures)
    c.close-dir.result.0 c.close-dir.result.1 c.put_together-files.result.items
    (ap (λ p. p.0) c.close-dir.ensures.gives ∙ ap (λ (x : GateValue g.row.F.Denot g.row.R.Denot). x.dir.file) is)
    (ap (λ p. p.1) c.close-dir.ensures.gives ∙ ap (λ (x : GateValue g.row.F.Denot g.row.R.Denot). x.host.port) is)
    c.put_together-files.ensures.files
