-- The event that a served call appends.
use Rattle.std.specs.Prelude.{Some, [], length, ℕ, ◌++◌, ◌∷◌, ◌≡◌}
use Rattle.tee_types.specs.Limits.{IsObjectFile}
use Rattle.call_steps.specs.CallerSessions.{CallerSession}
use Rattle.call_steps.specs.SessionEvents.{Appends, IsWaiting}
use Rattle.history_seats.specs.Records.{HistoryRecord}
use Rattle.call_steps.specs.declared.PlacedReply.{PlacedReply}
use Rattle.call_steps.specs.GuardedGates.{GuardedGateValue}
use Rattle.store_model.specs.Record.{file_of}
use Rattle.store_model.specs.declared.event.Event.TheVariants.{Call as CallEvent}
use Rattle.store_model.specs.declared.event.Mark.{Mark}
use Rattle.core_laws.specs.Stores.{Store}
use Rattle.tee_types.specs.declared.call.Call.{Call}

-- One event was appended: the session's next, with the call and what it was answered. Its tag, if it has one, names an object's file.
pub record AppendsCall {F R E : Type 0} (store : Store) (old new : GuardedGateValue F R) (was now : CallerSession E) (call : Call) (answer : PlacedReply) : Type 0 where
  pub mark : Mark
  pub appends : Appends store was now call answer mark
  pub place : answer.place ≡ length old.journal.knows.all
  pub last : HistoryRecord
  pub event : last.event ≡ CallEvent was.number was.made call answer.reply mark
  pub tagged : (file : ℕ) → file_of last ≡ Some file → IsObjectFile file
  pub all : new.journal.knows.all ≡ old.journal.knows.all ++ last ∷ []

-- No event was appended.
pub record AppendsNone {F R E : Type 0} (store : Store) (old new : GuardedGateValue F R) (was now : CallerSession E) : Type 0 where
  pub all : new.journal.knows.all ≡ old.journal.knows.all
  pub waits : IsWaiting store was now
