-- What the store answers to a call that would leave its application more than it may have.
use Rattle.std.specs.Prelude.{ℕ, Bool, true, false, ◌&&◌, ◌||◌, if◌then◌else◌, nat_lt, List, Some, None}
use Rattle.tee_types.specs.declared.call.Call.{Call}
use Rattle.tee_types.specs.declared.reply.Reply.{Reply}
use Rattle.tee_types.specs.declared.reply.Reply.TheVariants.{Misuse, NotAvailable, Refused}
use Rattle.tee_types.specs.declared.reply.Code.TheVariants.{NoSpace}
use Rattle.store_model.specs.Machine.{MachineState, Outcome, session_at, refuse}
use Rattle.store_model.specs.Calls.{outcome_of}
use Rattle.app_totals.specs.declared.numbers.Totals.{Totals}
use Rattle.app_totals.specs.declared.numbers.Forecast.{Forecast}
use Rattle.app_totals.specs.Meant.{held_by, left_by}

-- what each application may have
abbrev pub Limits : Type 0
Limits = List ℕ → Totals

-- one of the two numbers rises, and is then above the limit
abbrev pub exceeds : Totals → Totals → Totals → Bool
exceeds limit before after =
    (nat_lt before.objects after.objects && nat_lt limit.objects after.objects) || (nat_lt before.bytes after.bytes && nat_lt limit.bytes after.bytes)

-- a call would leave its application more than it may have
abbrev pub is_beyond : Limits → MachineState → ℕ → Call → Bool
is_beyond limits s i call = exceeds (limits (session_at s i).application) (held_by s i) (left_by s i call)

-- so a forecast tells
abbrev pub tells_beyond : Totals → Forecast → Bool
tells_beyond limit forecast = elim forecast.grown [ Some left ↦ exceeds limit (record { objects = forecast.objects; bytes = forecast.bytes }) left | None ↦ false ]

-- the reply comes before what a call would leave is asked: it is a misuse, or a device has the blame
abbrev pub is_early : Reply → Bool
is_early (Misuse reason) = true
is_early (NotAvailable cause) = true
is_early _ = false

-- What the store answers to a call under quotas, and what it leaves.
abbrev pub quota_outcome : Limits → MachineState → ℕ → Call → Outcome
quota_outcome limits s i call = if is_beyond limits s i call then refuse s (Refused NoSpace) else outcome_of s i call

abbrev pub quota_reply : Limits → MachineState → ℕ → Call → Reply
quota_reply limits s i call = (quota_outcome limits s i call).reply
