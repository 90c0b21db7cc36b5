-- A call that was served: one event is appended, which is the session's next.
use Rattle.std.specs.Prelude.{◌≡◌, ◌≤◌, ◌+◌, ℕ, length, Some, Result, Ok, Err}
use Rattle.tee_types.specs.declared.call.Call.{Call}
use Rattle.store_model.specs.declared.event.Event.TheVariants.{Call as CallEvent}
use Rattle.store_model.specs.declared.event.Mark.TheVariants.{Unchanged}
use Rattle.store_model.specs.Record.{file_of}
use Rattle.history_seats.specs.Changes.{with_record}
use Rattle.history_seats.specs.Records.{HistoryRecord}
use Rattle.core_laws.specs.Stores.{Store}
use Rattle.commit_gate.specs.CallerSessions.{CallerSession}
use Rattle.open_table.specs.HandleChanges.{NotesReply}
use Rattle.commit_gate.specs.GuardedGates.{GuardedGateValue}
use Rattle.commit_gate.specs.declared.placed_reply.PlacedReply.{PlacedReply}
use Rattle.call_steps.specs.SessionEvents.{Appends}

-- The event has the reply and the place that are told, changed nothing, and is tagged with the object's file. The gate has no commit in doubt,
-- as before: of it at most the table of open handles changed, as call and reply say.
pub record IsServed {F R E : Type 0} (store : Store) (old new : GuardedGateValue F R) (was now : CallerSession E) (file : ℕ) (call : Call) (answer : PlacedReply) : Type 0 where
  pub place : answer.place ≡ length old.journal.knows.all
  pub appends : Appends store was now call answer Unchanged
  pub last : HistoryRecord
  pub event : last.event ≡ CallEvent was.number was.made call answer.reply Unchanged
  pub tagged : file_of last ≡ Some file
  pub knows : new.journal.knows ≡ with_record last old.journal.knows
  pub spare : old.journal.spare ≤ new.journal.spare + 1
  pub gate : new.gate ≡ record old.gate { open_handles = new.gate.open_handles }
  pub notes : NotesReply old.gate.open_handles new.gate.open_handles file was.number call answer.reply
  pub closing : new.closing ≡ old.closing

-- The call was served, or memory ran out before, and gate and session stay.
abbrev pub IsServedOrNot : {F R E A : Type 0} → Store → (old new : GuardedGateValue F R) → (was now : CallerSession E) → (file : ℕ) → Call → Result PlacedReply A → Type 0
IsServedOrNot store old new was now file call (Ok answer) = IsServed store old new was now file call answer
IsServedOrNot store old new was now file call (Err none) = (new ≡ old) × (now ≡ was)
