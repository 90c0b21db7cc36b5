-- The change fits; each end that the gate may give may be appended; and what always holds of the gate holds behind it.
use Rattle.std.proofs.Common.{◌≡◌, ◌<◌, ◌^◌, [], None, Option, slice_index_or, sym, subst}
use Rattle.history_seats.specs.Views.{GateView}
use Rattle.crash_core.specs.EntryChanges.{file_put}
use Rattle.commit_gate.specs.JournalCalls.{LeavesSession}
use Rattle.commit_gate.specs.Journals.{IsJournal}
use Rattle.crash_core.specs.declared.change.DoubtedChange.{DoubtedChange}
use Rattle.store_commit.specs.Causes.{counts}
use Rattle.store_commit.specs.Changes.{FitsIn}
use Rattle.store_commit.specs.Gates.{gate_sides}
use Rattle.store_commit.specs.Holds.{IsTaken}
use Rattle.core_laws.specs.Ties.{IsTied}
use Rattle.commit_gate.specs.declared.guarded_gate.Closing.{Closing}
use Rattle.commit_gate.specs.Commits.{IsCalm, IsReadyCommit}
use Rattle.commit_gate.specs.GuardedGates.{GateInvariant, GuardedGateValue}
use Rattle.commit_gate.specs.SessionMoves.{moved_by}
use Rattle.commit_gate.proofs.EndedGates.{ended_guarded}
use Rattle.commit_gate.proofs.ReadyChanges.{change_fits, change_taken}
use Rattle.commit_gate.specs.GateEnds.{IsCommitEnd}
use Rattle.commit_gate.proofs.ReadyEnds.{commit_end, may_end}
use Rattle.commit_gate.proofs.guarded_gate.GuardedGate.commit.Goals as goal

pub commit-end-requires-clause-format : goal.commit-end-requires-clause-format
commit-end-requires-clause-format g c = c.self.invariant.current.root

pub commit-end-requires-clause-fits : goal.commit-end-requires-clause-fits
commit-end-requires-clause-fits g c =
    let commit = c.requires.ready.commit in
    subst (λ (v : GuardedGateValue g.row.F.Denot g.row.R.Denot). FitsIn v.gate.dir.dir.entries c.args.change) (sym c.self.view_is)
    (change_fits c.args.self.now.gate.dir.dir.entries c.args.change commit.before commit.place commit.after)

pub commit-end-requires-clause-taken : goal.commit-end-requires-clause-taken
commit-end-requires-clause-taken g c =
    let gate = c.args.self.now.gate in
    let application = slice_index_or g.L.StoreName.store.mounted.applications c.args.session.now.number [] in
    subst (λ (v : GuardedGateValue g.row.F.Denot g.row.R.Denot). IsTaken v.gate.dir.dir.entries v.gate.holds (file_put c.args.change)) (sym c.self.view_is)
    (change_taken application c.args.call gate.dir.dir.entries gate.counter c.args.change gate.holds c.requires.ready.commit.makes c.requires.held)

pub write_end-place-requires-clause-ends : goal.write_end-place-requires-clause-ends
write_end-place-requires-clause-ends g c =
    let store = g.L.StoreName.store in
    let inside = c.self.inside in
    let gate = inside.gate in
    let view = inside.journal.knows in
    let s = c.args.session.now in
    let versions = g.N.VersionsName.versions in
    let end = c.commit-end.result in
    let idle : gate.doubt ≡ None =
    subst (λ (v : GuardedGateValue g.row.F.Denot g.row.R.Denot). v.gate.doubt ≡ None) (sym c.self.view_is) c.requires.idle in
    let calm : IsCalm store view s =
    subst (λ (v : GuardedGateValue g.row.F.Denot g.row.R.Denot). IsCalm store v.journal.knows s) (sym c.self.view_is) c.requires.calm in
    let ready : IsReadyCommit store view gate.dir.dir.entries gate.counter s.number s.made c.args.call c.args.reply c.args.change c.args.slot.knows versions =
    subst (λ (v : GuardedGateValue g.row.F.Denot g.row.R.Denot). IsReadyCommit store v.journal.knows v.gate.dir.dir.entries v.gate.counter s.number s.made c.args.call c.args.reply c.args.change
    c.args.slot.knows versions) (sym c.self.view_is) c.requires.ready in
    let leaves_ : LeavesSession store view s.number c.args.call (moved_by s.state c.args.step) =
    subst (λ (v : GuardedGateValue g.row.F.Denot g.row.R.Denot). LeavesSession store v.journal.knows s.number c.args.call (moved_by s.state c.args.step)) (sym c.self.view_is) c.requires.moved in
    let tied : IsTied store view gate.dir.dir.entries gate.counter None =
    subst (λ (d : Option DoubtedChange). IsTied store view gate.dir.dir.entries gate.counter d) idle c.self.invariant.tied in
    let within : gate.counter < 2 ^ 32 = c.reveal_invariant.ensures.counter in
    may_end store view (gate_sides g.F.StoreFile.state g.R.RpmbPort.state gate) (gate_sides g.F.StoreFile.state g.R.RpmbPort.state c.commit-end.new.self) c.args.call c.args.reply c.args.change
    c.args.slot.knows versions (record s { entropy = c.commit-end.new.entropy }) c.args.step c.self.invariant.journal tied
    (record { caller = record { session = calm.caller.session; doubt = calm.caller.doubt }; sees = calm.sees; settled = calm.settled; within = calm.within })
    ready c.requires.fault leaves_ gate.host.key
    (counts (g.F.StoreFile.state gate.dir.file) (g.R.RpmbPort.state gate.host.port) (g.E.Entropy.faults c.entropy_mut.result.now))
    (counts (g.F.StoreFile.state c.commit-end.new.self.dir.file) (g.R.RpmbPort.state c.commit-end.new.self.host.port) (g.E.Entropy.faults c.commit-end.new.entropy))
    end within c.commit-end.ensures.leaves c.commit-end.ensures.cause c.commit-end.ensures.spent

pub returns-clause-end : goal.returns-clause-end
returns-clause-end g c =
    let gate = c.self.inside.gate in
    let within : gate.counter < 2 ^ 32 = c.reveal_invariant.ensures.counter in
    subst (λ (v : GuardedGateValue g.row.F.Denot g.row.R.Denot). IsCommitEnd v.gate.counter c.commit-end.result) c.self.view_is
    (commit_end (gate_sides g.F.StoreFile.state g.R.RpmbPort.state gate) (gate_sides g.F.StoreFile.state g.R.RpmbPort.state c.commit-end.new.self) c.args.change gate.host.key
    (counts (g.F.StoreFile.state gate.dir.file) (g.R.RpmbPort.state gate.host.port) (g.E.Entropy.faults c.entropy_mut.result.now))
    (counts (g.F.StoreFile.state c.commit-end.new.self.dir.file) (g.R.RpmbPort.state c.commit-end.new.self.host.port) (g.E.Entropy.faults c.commit-end.new.entropy))
    c.commit-end.result within c.commit-end.ensures.leaves c.commit-end.ensures.cause c.commit-end.ensures.spent)

pub invariant_of-self : goal.invariant_of-self
invariant_of-self g c =
    let store = g.L.StoreName.store in
    let inside = c.self.inside in
    let gate = inside.gate in
    let view = inside.journal.knows in
    let s = c.args.session.now in
    let versions = g.N.VersionsName.versions in
    let ensured = c.write_end-place.ensures in
    let idle : gate.doubt ≡ None =
    subst (λ (v : GuardedGateValue g.row.F.Denot g.row.R.Denot). v.gate.doubt ≡ None) (sym c.self.view_is) c.requires.idle in
    let calm : IsCalm store view s =
    subst (λ (v : GuardedGateValue g.row.F.Denot g.row.R.Denot). IsCalm store v.journal.knows s) (sym c.self.view_is) c.requires.calm in
    let ready : IsReadyCommit store view gate.dir.dir.entries gate.counter s.number s.made c.args.call c.args.reply c.args.change c.args.slot.knows versions =
    subst (λ (v : GuardedGateValue g.row.F.Denot g.row.R.Denot). IsReadyCommit store v.journal.knows v.gate.dir.dir.entries v.gate.counter s.number s.made c.args.call c.args.reply c.args.change
    c.args.slot.knows versions) (sym c.self.view_is) c.requires.ready in
    subst (λ (p : GateView × Option Closing). GateInvariant store c.write_end-place.new.gate p.0 p.1) (λ i. (sym ensured.ended.knows i, sym ensured.closing i))
    (ended_guarded g.F.StoreFile.state g.R.RpmbPort.state store gate c.commit-end.new.self c.write_end-place.new.gate view inside.closing c.self.invariant idle calm.within s.number s.made
    calm.caller.session.known c.args.call c.args.reply c.args.change c.args.slot.knows versions ready c.commit-end.ensures.throughout c.commit-end.ensures.open_handles ensured.gate
    c.commit-end.result c.commit-end.ensures.leaves c.commit-end.ensures.doubt ensured.handles (subst (IsJournal store) ensured.ended.knows ensured.ended.kept))
