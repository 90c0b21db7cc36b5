-- What the rules make of a call before anything is done.
use Rattle.std.specs.Prelude.{◌≡◌, ℕ, Bool, true, false, Option, Some, None}
use Rattle.tee_types.specs.declared.call.Call.{Call}
use Rattle.tee_types.specs.declared.call.Call.TheVariants.{Create, Open, Read, Write, Truncate, Rename, Delete, Info}
use Rattle.tee_types.specs.declared.reply.Reason.{Reason}
use Rattle.tee_types.specs.declared.reply.Reply.{Reply}
use Rattle.tee_types.specs.declared.reply.Reply.TheVariants.{Misuse}
use Rattle.store_model.specs.Calls.{reply_of}
use Rattle.store_model.specs.Files.{is_misuse}
use Rattle.store_model.specs.Machine.{MachineState, Session}
use Rattle.call_rules.specs.Told.{IsTold}

-- the call is on an object, and does something to it or tells of it
abbrev pub is_on_object : Call → Bool
is_on_object (Create id flags attributes bytes) = true
is_on_object (Open id flags) = true
is_on_object (Read handle size) = true
is_on_object (Write handle bytes) = true
is_on_object (Truncate handle size) = true
is_on_object (Rename handle id) = true
is_on_object (Delete handle) = true
is_on_object (Info handle) = true
is_on_object _ = false

-- The machine answers the call with that misuse; or it is none.
abbrev pub IsMisuse : MachineState → (session : ℕ) → Session → Call → Option Reason → Type 0
IsMisuse s i caller call (Some reason) = IsTold s i call (Misuse reason) caller
IsMisuse s i caller call None = is_misuse (reply_of s i call) ≡ false

abbrev pub reason_of : Reply → Option Reason
reason_of (Misuse reason) = Some reason
reason_of _ = None

-- that reason, unless there is one
abbrev pub reason_unless : {A : Type 0} → Option A → Reason → Option Reason
reason_unless None reason = Some reason
reason_unless (Some a) reason = None

-- that reason, where the test holds
abbrev pub reason_where : Bool → Reason → Option Reason
reason_where true reason = Some reason
reason_where false reason = None
