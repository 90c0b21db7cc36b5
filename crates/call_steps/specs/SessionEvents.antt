-- The session's next event, or that it has none.
use Rattle.std.specs.Prelude.{◌≡◌, ◌+◌}
use Rattle.tee_types.specs.declared.call.Call.{Call}
use Rattle.store_model.specs.declared.event.Event.TheVariants.{Call as CallEvent}
use Rattle.store_model.specs.declared.event.Mark.{Mark}
use Rattle.core_laws.specs.Sessions.{Extends}
use Rattle.core_laws.specs.Stores.{Store}
use Rattle.commit_gate.specs.CallerSessions.{CallerSession, IsCallerOf, session_value}
use Rattle.commit_gate.specs.declared.placed_reply.PlacedReply.{PlacedReply}
use Rattle.call_steps.specs.Seen.{GoesOn}

-- The call and its answer are the session's next event, with that mark and at that place: between the session's view before and that place the
-- session has none. The whole is fair, and the session is the store's behind it.
pub record Appends {E : Type 0} (store : Store) (was now : CallerSession E) (call : Call) (answer : PlacedReply) (mark : Mark) : Type 0 where
  pub extends : Extends store (session_value was) (session_value now) (CallEvent was.number was.made call answer.reply mark) answer.place
  pub caller : IsCallerOf store now
  pub made : now.made ≡ was.made + 1

-- The session has no event more. It may have been shown the history.
pub record IsWaiting {E : Type 0} (store : Store) (was now : CallerSession E) : Type 0 where
  pub caller : IsCallerOf store now
  pub number : now.number ≡ was.number
  pub made : now.made ≡ was.made
  pub goes_on : GoesOn store was now
