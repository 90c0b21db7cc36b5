-- A session that waits goes on to what it is answered.
use Rattle.std.proofs.Common.{Err, IsErr, None, Ok, Option, Result, Some}
use Rattle.serial_calls.specs.CallerSessions.{CallerSession}
use Rattle.serial_calls.specs.declared.PlacedReply.{PlacedReply}
use Rattle.serial_calls.specs.Stores.{Store}
use Rattle.tee_types.specs.declared.call.Call.{Call}
use Rattle.serial_calls.proofs.GoingOn.{appends-then, waits-then}
use Rattle.shared_calls.specs.Attempts.{EndsCall, EndsAttempt, IsAnswered}
use Rattle.serial_calls.specs.SessionEvents.{IsWaiting}

-- memory ran out
pub starves : {E X : Type 0} (store : Store) (was now : CallerSession E) (call : Call) (result : Result (Option PlacedReply) X) → IsErr result → IsWaiting store was now → EndsAttempt store was now call result
starves store was now call (Ok found) is w = absurd (cc (is))
starves store was now call (Err none) is w = w

module _ {E : Type 0} (store : Store) (was between now : CallerSession E) (first : IsWaiting store was between) where
  pub answers-then : (call : Call) (answer : PlacedReply) → IsAnswered store between now call answer → IsAnswered store was now call answer
  answers-then call answer a = record { mark = a.mark; appends = appends-then store was between now first call answer a.mark a.appends }

  pub ends-then : {X : Type 0} (call : Call) (result : Result (Option PlacedReply) X) → EndsAttempt store between now call result → EndsAttempt store was now call result
  ends-then call (Ok (Some answer)) e = answers-then call answer e
  ends-then call (Ok None) e = waits-then store was between now first e
  ends-then call (Err none) e = waits-then store was between now first e

  pub calls-then : {X : Type 0} (call : Call) (result : Result PlacedReply X) → EndsCall store between now call result → EndsCall store was now call result
  calls-then call (Ok answer) e = answers-then call answer e
  calls-then call (Err none) e = waits-then store was between now first e

  -- memory ran out behind it
  pub starves-then : {X : Type 0} (call : Call) (result : Result PlacedReply X) → IsErr result → IsWaiting store between now → EndsCall store was now call result
  starves-then call (Ok answer) is w = absurd (cc (is))
  starves-then call (Err none) is w = waits-then store was between now first w
