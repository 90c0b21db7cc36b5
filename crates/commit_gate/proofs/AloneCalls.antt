-- A gate behind its lock over a call that is answered with no object's file.
use Rattle.std.proofs.Common.{◌≡◌, ◌<◌, ℕ, List, [], ◌∷◌, length, Option, Some, None, refl, sym, ap, ◌∙◌, subst}
use Rattle.tee_types.specs.declared.call.Call.{Call}
use Rattle.tee_types.specs.declared.call.Call.TheVariants.{Create, Open, Close, Delete}
use Rattle.tee_types.specs.declared.reply.Reply.{Reply}
use Rattle.tee_types.specs.declared.reply.Reply.TheVariants.{Done, Handle}
use Rattle.open_table.specs.Table.{TableState}
use Rattle.store_model.specs.declared.event.Event.TheVariants.{Call as CallEvent}
use Rattle.store_model.specs.declared.event.Mark.TheVariants.{Unchanged}
use Rattle.store_model.specs.Machine.{MachineState}
use Rattle.store_model.specs.Record.{Tag, file_of}
use Rattle.store_model.specs.ReplayState.{ReplayState}
use Rattle.dir_records.specs.declared.entry.DirEntry.{DirEntry}
use Rattle.history_seats.specs.Records.{HistoryRecord, Version}
use Rattle.history_seats.specs.Views.{GateView}
use Rattle.history_seats.specs.Changes.{with_record, call_record}
use Rattle.core_laws.specs.Stores.{Store, replay_at}
use Rattle.core_laws.proofs.Answers.{answered-front, replay_state-snoc}
use Rattle.core_laws.proofs.MapSteps.{quiet_after}
use Rattle.core_laws.proofs.SessionSteps.{sessions_at}
use Rattle.commit_gate.specs.Journals.{IsJournal}
use Rattle.core_laws.specs.TieLaws.{KeepsDoubt}
use Rattle.core_laws.proofs.QuietTies.{unchanged_ties}
use Rattle.core_laws.proofs.RightTags.{unchanged_right}
use Rattle.call_rules.specs.OpenLaws.{IsOpenedFile}
use Rattle.call_rules.proofs.EventOpens.{unchanged-event}
use Rattle.crash_core.specs.declared.change.DoubtedChange.{DoubtedChange}
use Rattle.store_commit.specs.Gates.{GateValue}
use Rattle.open_table.specs.HandleChanges.{NotesReply}
use Rattle.commit_gate.specs.declared.guarded_gate.Closing.{Closing}
use Rattle.commit_gate.specs.Answering.{LeavesHandles}
use Rattle.commit_gate.specs.GuardedGates.{AreHandlesTied, IsClosingTied, GateInvariant}

none_some : {A : Type 0} (a : A) → None ≡ Some a → ⊥
none_some a e = cc

-- such a call leaves the table
pub quiet-notes : (call : Call) (reply : Reply) (table : TableState) (file session : ℕ) → LeavesHandles call reply → NotesReply table table file session call reply
quiet-notes (Create id flags attributes bytes) (Handle handle) table file session quiet = absurd quiet
quiet-notes (Open id flags) (Handle handle) table file session quiet = absurd quiet
quiet-notes (Close handle) Done table file session quiet = absurd quiet
quiet-notes (Delete handle) Done table file session quiet = absurd quiet
quiet-notes call reply table file session quiet = refl

-- and opens nothing
pub quiet-opened : (call : Call) (reply : Reply) (entries : List (Option DirEntry)) (s : MachineState) (session file : ℕ) → LeavesHandles call reply
    → IsOpenedFile entries s session call reply file
quiet-opened (Open id flags) (Handle handle) entries s session file quiet = absurd quiet
quiet-opened call reply entries s session file quiet = tt

module _ (store : Store) (knows : GateView) (session made : ℕ) (call : Call) (reply : Reply) where
  abbrev r : HistoryRecord
  r = call_record session made call reply Unchanged None

  alone-handles : (entries : List (Option DirEntry)) (old new : TableState) → session < length store.mounted.applications → NotesReply old new 0 session call reply
      → ((s : MachineState) → IsOpenedFile entries s session call reply 0) → AreHandlesTied store knows entries old → AreHandlesTied store (with_record r knows) entries new
  alone-handles entries old new known notes opened tied = λ scenario answered.
      unchanged-event store scenario knows.all r answered entries old new (tied scenario (answered-front store scenario knows.all (r ∷ []) answered)) session made 0 call reply notes refl
      (subst (λ (n : ℕ). session < n) (sym (sessions_at store scenario knows.all)) known) (opened (replay_at store scenario knows.all).state)

  alone-closes : (doubt : Option DoubtedChange) (closing : Option Closing) → IsClosingTied store knows doubt closing → IsClosingTied store (with_record r knows) doubt closing
  alone-closes None closing closes = closes
  alone-closes (Some d) closing closes = λ scenario own answered is.
      let here = replay_at store scenario knows.all in
      closes scenario own (answered-front store scenario knows.all (r ∷ []) answered)
      ((quiet_after here r.event (file_of r) refl).doubt own (sym (ap (λ (s : ReplayState). s.doubt) (replay_state-snoc store scenario knows.all r)) ∙ is)).0

  pub alone-guarded : {F R : Type 0} (gate : GateValue F R) (table : TableState) (closing : Option Closing) → session < length store.mounted.applications
      → KeepsDoubt gate.doubt (CallEvent session made call reply Unchanged) → NotesReply gate.open_handles table 0 session call reply
      → ((s : MachineState) → IsOpenedFile gate.dir.dir.entries s session call reply 0) → IsJournal store (with_record r knows)
      → GateInvariant store gate knows closing → GateInvariant store (record gate { open_handles = table }) (with_record r knows) closing
  alone-guarded gate table closing known keeps notes opened journal guarded = record {
    journal = journal;
    tied =
        unchanged_ties store knows gate.dir.dir.entries gate.counter gate.doubt r refl
        (unchanged_right store.mounted knows.all r refl (λ (tag : Tag Version) is. absurd (none_some tag is))) keeps guarded.tied;
    handles = alone-handles gate.dir.dir.entries gate.open_handles table known notes opened guarded.handles;
    closes = alone-closes gate.doubt closing guarded.closes;
    directory_key = guarded.directory_key;
    card_key = guarded.card_key;
    current = guarded.current;
  }
