-- The ends of a ready commit: their records are fair and rightly tagged, and what always holds of the gate holds behind them.
use Rattle.std.specs.Prelude.{◌≡◌, ◌<◌, ◌≤◌, ◌+◌, ◌^◌, ℕ, List, Option, Some, None, length}
use Rattle.tee_types.specs.declared.call.Call.{Call}
use Rattle.tee_types.specs.declared.reply.Cause.{Cause}
use Rattle.tee_types.specs.declared.reply.Reply.{Reply}
use Rattle.tee_types.specs.declared.reply.Reply.TheVariants.{NotAvailable}
use Rattle.store_model.specs.declared.event.Mark.TheVariants.{Unchanged, Made, Doubtful}
use Rattle.store_model.specs.Record.{fault_in_reply, file_at_fault}
use Rattle.dir_records.specs.declared.entry.DirEntry.{DirEntry}
use Rattle.history_seats.specs.Changes.{TagVersions, with_record}
use Rattle.history_seats.specs.Tags.{HasRightTag}
use Rattle.history_seats.specs.Views.{GateView, SlotView}
use Rattle.crash_core.specs.EntryChanges.{changed}
use Rattle.core_laws.specs.TamperScenarios.{TamperScenario}
use Rattle.core_laws.specs.Stores.{Store}
use Rattle.core_laws.specs.Answered.{IsFairAt}
use Rattle.open_table.specs.HandleChanges.{NotesReply}
use Rattle.store_commit.specs.Gates.{GateValue}
use Rattle.crash_core.specs.declared.change.EntryChange.{EntryChange}
use Rattle.commit_gate.specs.Journals.{IsJournal}
use Rattle.core_laws.specs.EventAnswers.{IsUnmade}
use Rattle.core_laws.specs.Ties.{IsTied}
use Rattle.commit_gate.specs.declared.guarded_gate.Closing.{Closing}
use Rattle.commit_gate.specs.GuardedGates.{GateInvariant, closing_of}
use Rattle.commit_gate.specs.Commits.{IsReadyCommit, file_record, made_versions, unmade_versions}

-- Each end's record is fair under each tamper scenario: made with the machine's reply, in doubt with a cause that accuses no object's file, and not
-- made with why.
pub record AreEndsFair (store : Store) (view : GateView) (counter session number : ℕ) (call : Call) (reply : Reply) (slot : SlotView) (versions : TagVersions) : Type 0 where
  pub made : counter + 1 < 2 ^ 32 → (scenario : TamperScenario) → IsFairAt store scenario view.all (file_record session number call reply (Made (counter + 1)) slot (made_versions versions))
  pub doubtful : counter + 1 < 2 ^ 32 → (cause : Cause) → file_at_fault cause ≡ None → (scenario : TamperScenario)
      → IsFairAt store scenario view.all (file_record session number call (NotAvailable cause) (Doubtful (counter + 1)) slot versions)
  pub unmade : (told : Reply) → IsUnmade counter told → fault_in_reply told ≡ None → (scenario : TamperScenario)
      → IsFairAt store scenario view.all (file_record session number call told Unchanged slot (unmade_versions versions))
  -- and its tag is right
  pub made_tag : (n : ℕ) → HasRightTag store.mounted view.all (file_record session number call reply (Made n) slot (made_versions versions))
  pub doubtful_tag : (told : Reply) (n : ℕ) → HasRightTag store.mounted view.all (file_record session number call told (Doubtful n) slot versions)

abbrev pub ReadyCommitsAreFair : Type 0
ReadyCommitsAreFair =
    (store : Store) (view : GateView) (entries : List (Option DirEntry)) (counter session number : ℕ) (call : Call) (reply : Reply) (change : EntryChange) (slot : SlotView) (versions : TagVersions)
    → IsJournal store view → IsTied store view entries counter None → session < length store.mounted.applications
    → IsReadyCommit store view entries counter session number call reply change slot versions → AreEndsFair store view counter session number call reply slot versions

-- The gate behind its lock while no commit is in doubt.
pub record IsIdleGate {F R : Type 0} (store : Store) (gate : GateValue F R) (view : GateView) (closing : Option Closing) : Type 0 where
  pub guarded : GateInvariant store gate view closing
  pub idle : gate.doubt ≡ None
  pub within : view.decided ≤ length view.all

-- The gate once a commit of that number is in doubt.
pub record IsDoubtedGate {F R : Type 0} (old new : GateValue F R) (change : EntryChange) (n : ℕ) : Type 0 where
  pub entries : new.dir.dir.entries ≡ old.dir.dir.entries
  pub counted : new.counter ≡ old.counter
  pub doubted : new.doubt ≡ Some (record { number = n; change = change })
  pub open_handles : new.open_handles ≡ old.open_handles
  pub tsk : new.dir.dir.tsk ≡ old.dir.dir.tsk
  pub format : new.dir.dir.root.format ≡ old.dir.dir.root.format
  pub key : new.host.key ≡ old.host.key

-- The gate once a session's commit of that number was made, and its handle noted.
pub record IsMadeGate {F R : Type 0} (old new : GateValue F R) (change : EntryChange) (n file session : ℕ) (call : Call) (reply : Reply) : Type 0 where
  pub entries : new.dir.dir.entries ≡ changed old.dir.dir.entries change
  pub counted : new.counter ≡ n
  pub settled : new.doubt ≡ None
  pub notes : NotesReply old.open_handles new.open_handles file session call reply
  pub tsk : new.dir.dir.tsk ≡ old.dir.dir.tsk
  pub format : new.dir.dir.root.format ≡ old.dir.dir.root.format
  pub key : new.host.key ≡ old.host.key

-- Behind the record of a ready commit in doubt the gate is whole, and its doubt's landing closes the handle of a delete.
abbrev pub DoubtfulCommitsKeepGates : (F R : Type 0) → Type 0
DoubtfulCommitsKeepGates F R =
    (store : Store) (old new : GateValue F R) (view : GateView) (closing : Option Closing) (session number : ℕ) (call : Call) (reply : Reply) (change : EntryChange) (slot : SlotView) (versions : TagVersions)
    (cause : Cause) (n : ℕ) → IsIdleGate store old view closing → session < length store.mounted.applications
    → IsReadyCommit store view old.dir.dir.entries old.counter session number call reply change slot versions → IsDoubtedGate old new change n
    → IsJournal store (with_record (file_record session number call (NotAvailable cause) (Doubtful n) slot versions) view)
    → GateInvariant store new (with_record (file_record session number call (NotAvailable cause) (Doubtful n) slot versions) view) (closing_of session call)

-- So it is behind the record of one that was made.
abbrev pub MadeCommitsKeepGates : (F R : Type 0) → Type 0
MadeCommitsKeepGates F R =
    (store : Store) (old new : GateValue F R) (view : GateView) (closing : Option Closing) (session number : ℕ) (call : Call) (reply : Reply) (change : EntryChange) (slot : SlotView) (versions : TagVersions)
    (n : ℕ) → IsIdleGate store old view closing → session < length store.mounted.applications
    → IsReadyCommit store view old.dir.dir.entries old.counter session number call reply change slot versions
    → IsMadeGate old new change n slot.file session call reply
    → IsJournal store (with_record (file_record session number call reply (Made n) slot (made_versions versions)) view)
    → GateInvariant store new (with_record (file_record session number call reply (Made n) slot (made_versions versions)) view) closing
