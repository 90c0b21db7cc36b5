-- What a validation of a call at the gate leaves of its session.
use Rattle.std.specs.Prelude.{Err, Ok, Result}
use Rattle.serial_calls.specs.CallerSessions.{CallerSession}
use Rattle.serial_calls.specs.declared.PlacedReply.{PlacedReply}
use Rattle.serial_calls.specs.Stores.{Store}
use Rattle.tee_types.specs.declared.call.Call.{Call}
use Rattle.shared_calls.specs.declared.validation.Validation.{Validation}
use Rattle.shared_calls.specs.declared.validation.Validation.TheVariants.{Retry, Answered, Found}
use Rattle.shared_calls.specs.Attempts.{IsAnswered}
use Rattle.serial_calls.specs.SessionEvents.{IsWaiting}

-- the call is answered, or waits still; or memory ran out
abbrev pub EndsLook : {E T X : Type 0} → Store → (was now : CallerSession E) → Call → Result (Validation T) X → Type 0
EndsLook store was now call (Ok (Answered answer)) = IsAnswered store was now call answer
EndsLook store was now call (Ok (Found found)) = IsWaiting store was now
EndsLook store was now call (Ok Retry) = IsWaiting store was now
EndsLook store was now call (Err none) = IsWaiting store was now

-- it found something of which this holds; or nothing is said
abbrev pub IfFound : {T X : Type 0} → Result (Validation T) X → (T → Type 0) → Type 0
IfFound (Ok (Found found)) says = says found
IfFound (Ok Retry) says = Unit {0}
IfFound (Ok (Answered answer)) says = Unit {0}
IfFound (Err none) says = Unit {0}

-- it answered the call, and of the answer this holds; or nothing is said
abbrev pub IfAnswered : {T X : Type 0} → Result (Validation T) X → (PlacedReply → Type 0) → Type 0
IfAnswered (Ok (Answered answer)) says = says answer
IfAnswered (Ok (Found found)) says = Unit {0}
IfAnswered (Ok Retry) says = Unit {0}
IfAnswered (Err none) says = Unit {0}
