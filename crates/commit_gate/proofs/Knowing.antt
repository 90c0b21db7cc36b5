-- What a gate behind its lock tells of the machine.
use Rattle.std.proofs.Common.{◌≡◌, ◌<◌, ℕ, List, Option, Some, None, IfSome, length, sym, ap, ◌∙◌, subst}
use Rattle.dir_records.specs.declared.entry.DirEntry.{DirEntry}
use Rattle.dir_records.specs.Form.{HasForm}
use Rattle.store_commit.specs.EntryForms.{AreEntriesOf}
use Rattle.open_table.specs.declared.table.OpenRecord.{OpenRecord}
use Rattle.open_table.specs.Table.{TableState}
use Rattle.store_model.specs.Machine.{Session}
use Rattle.crash_core.specs.DirectoryLaws.{AreEntries}
use Rattle.crash_core.specs.Entries.{first_double}
use Rattle.crash_core.proofs.Doubles.{below, files_single, names_distinct}
use Rattle.history_seats.specs.Views.{GateView}
use Rattle.core_laws.specs.Stores.{Store}
use Rattle.core_laws.proofs.SessionSteps.{sessions_at}
use Rattle.commit_gate.specs.Journals.{AreDoubtsHeld}
use Rattle.commit_gate.proofs.CallMoves.{stands-now}
use Rattle.call_rules.proofs.MappedShapes.{mapped_shape}
use Rattle.call_rules.proofs.ReplayHandles.{well_replay-answered}
use Rattle.call_rules.specs.OpenHandles.{AreOpen}
use Rattle.core_laws.proofs.LastDoubts.{doubts_held}
use Rattle.crash_core.specs.declared.change.DoubtedChange.{DoubtedChange}
use Rattle.store_commit.specs.Gates.{DoubtStands, GateValue}
use Rattle.store_commit.specs.Sides.{Sides}
use Rattle.commit_gate.specs.declared.guarded_gate.Closing.{Closing}
use Rattle.commit_gate.specs.GuardedGates.{GateInvariant}
use Rattle.commit_gate.specs.KnownMachine.{GuardedGatesKnow, ShownSessionsStand}

pub guarded_know : (F R : Type 0) → GuardedGatesKnow F R
guarded_know F R store gate knows closing guarded distinct = λ scenario answered. record {
  shaped =
      mapped_shape store scenario knows.all gate.dir.dir.entries (guarded.journal.in_step scenario answered).now guarded.tied.listed guarded.tied.versions distinct
      (guarded.tied.rising scenario answered);
  handles = guarded.handles scenario answered;
  opened = (well_replay-answered store scenario knows.all answered).opened;
}

pub shown_stand : (E : Type 0) → ShownSessionsStand E
shown_stand E store knows caller of sees scenario answered = record {
  within = subst (λ (n : ℕ). caller.number < n) (sym (sessions_at store scenario knows.all)) of.session.known;
  is = stands-now store knows caller of sees scenario answered;
}

-- 256 entries in their forms, without a double
pub directory-entries : (entries : List (Option DirEntry)) → AreEntriesOf entries → AreEntries entries
directory-entries entries are =
    let none : first_double entries 0 (length entries) ≡ None = ap (λ (n : ℕ). first_double entries 0 n) are.whole ∙ are.apart in
    record {
      whole = are.whole;
      forms = λ index e at. subst (λ (o : Option DirEntry). IfSome o HasForm) at (are.forms index (below entries index e at));
      distinct = names_distinct entries none;
      single = files_single entries none;
    }

-- a gate's entries are such, whether a commit is in doubt or none is
pub gate-entries : (g : Sides) (o : Option DoubtedChange) → DoubtStands g o → AreEntries g.dir.entries
gate-entries g None settled = directory-entries g.dir.entries settled.entries
gate-entries g (Some d) of = directory-entries g.dir.entries of.stands.entries

-- While a doubt is open in the records, each replay has one open.
pub guarded-held : {F R : Type 0} (store : Store) (gate : GateValue F R) (knows : GateView) (closing : Option Closing) → GateInvariant store gate knows closing → AreDoubtsHeld store knows
guarded-held store gate knows closing guarded commit open_ scenario answered =
    let own = doubts_held store knows gate.dir.dir.entries gate.counter gate.doubt guarded.tied commit open_ scenario answered in
    (own.0, own.1)

-- The table's room has no part in what it tells.
pub same-open : (entries : List (Option DirEntry)) (old new : TableState) (sessions : List Session) → new.records ≡ old.records → AreOpen entries old sessions → AreOpen entries new sessions
same-open entries old new sessions same are =
    subst (λ (records : List (ℕ × OpenRecord)). AreOpen entries (record { records = records; spare = new.spare }) sessions) (sym same)
    (record { each = are.each; back = are.back; single = are.single; bound = are.bound; keyed = are.keyed; numbered = are.numbered })

pub roomy-guarded : {F R : Type 0} (store : Store) (gate next : GateValue F R) (knows : GateView) (closing : Option Closing) → next.open_handles.records ≡ gate.open_handles.records
    → next ≡ record gate { open_handles = next.open_handles; room = next.room } → GateInvariant store gate knows closing → GateInvariant store next knows closing
roomy-guarded store gate next knows closing same is guarded =
    subst (λ (g : GateValue _ _). GateInvariant store g knows closing) (sym is) (record {
      journal = guarded.journal;
      tied = guarded.tied;
      handles = λ scenario answered. same-open gate.dir.dir.entries gate.open_handles next.open_handles _ same (guarded.handles scenario answered);
      closes = guarded.closes;
      directory_key = guarded.directory_key;
      card_key = guarded.card_key;
      current = guarded.current;
    })
