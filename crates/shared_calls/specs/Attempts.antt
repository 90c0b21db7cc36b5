-- What a call leaves of its session while other threads serve theirs: nothing is said of the gate, which others change before and after.
use Rattle.std.specs.Prelude.{Err, None, Ok, Option, Result, Some}
use Rattle.serial_calls.specs.CallerSessions.{CallerSession}
use Rattle.serial_calls.specs.SessionEvents.{Appends, IsWaiting}
use Rattle.serial_calls.specs.declared.PlacedReply.{PlacedReply}
use Rattle.store_model.specs.declared.event.Mark.{Mark}
use Rattle.serial_calls.specs.Stores.{Store}
use Rattle.tee_types.specs.declared.call.Call.{Call}

-- The call stands in the history with what it was answered, whatever its mark.
pub record IsAnswered {E : Type 0} (store : Store) (was now : CallerSession E) (call : Call) (answer : PlacedReply) : Type 0 where
  pub mark : Mark
  pub appends : Appends store was now call answer mark

-- an attempt of a call ends with its answer, or has to be begun again; or memory ran out
abbrev pub EndsAttempt : {E X : Type 0} → Store → (was now : CallerSession E) → Call → Result (Option PlacedReply) X → Type 0
EndsAttempt store was now call (Ok (Some answer)) = IsAnswered store was now call answer
EndsAttempt store was now call (Ok None) = IsWaiting store was now
EndsAttempt store was now call (Err none) = IsWaiting store was now

-- the call is answered, or memory ran out
abbrev pub EndsCall : {E X : Type 0} → Store → (was now : CallerSession E) → Call → Result PlacedReply X → Type 0
EndsCall store was now call (Ok answer) = IsAnswered store was now call answer
EndsCall store was now call (Err none) = IsWaiting store was now
