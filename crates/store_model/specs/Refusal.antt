-- Replies by which a call is refused, and what a refusal leaves.
use Rattle.std.specs.Prelude.{◌≡◌, ℕ, Bool, true, false}
use Rattle.tee_types.specs.declared.call.Call.{Call}
use Rattle.tee_types.specs.declared.call.Call.TheVariants.{EnumStart}
use Rattle.tee_types.specs.declared.reply.Reply.{Reply}
use Rattle.tee_types.specs.declared.reply.Reply.TheVariants.{Done, Handle, Content, Info, Found, Refused, NotAvailable, CounterSpent}
use Rattle.enumerators.specs.Enumeration.{reset}
use Rattle.store_model.specs.Machine.{MachineState, session_at}
use Rattle.store_model.specs.Enumerating.{with_enumerators}
use Rattle.store_model.specs.Calls.{reply_of, state_after}

-- the call was not done
abbrev pub is_refusal : Reply → Bool
is_refusal Done = false
is_refusal (Handle number) = false
is_refusal (Content bytes) = false
is_refusal (Info size position flags attributes) = false
is_refusal (Found id size) = false
is_refusal _ = true

-- a device has a part in the reply: it failed, or its counter is spent
abbrev pub is_of_device : Reply → Bool
is_of_device (NotAvailable cause) = true
is_of_device (CounterSpent counter) = true
is_of_device _ = false

-- What a refused call leaves: the whole state, and a start that finds no object leaves its enumerator not started.
abbrev pub left_by_refusal : MachineState → ℕ → Call → Reply → MachineState
left_by_refusal s i (EnumStart number) (Refused code) = with_enumerators s i (reset (session_at s i).enumerators number)
left_by_refusal s i _ _ = s

-- A refused call changes nothing: no object, handle, position or enumerator, but for the start that finds no object.
abbrev pub RefusalsChangeNothing : Type 0
RefusalsChangeNothing =
    (s : MachineState) (i : ℕ) (call : Call) → is_refusal (reply_of s i call) ≡ true
    → state_after s i call ≡ left_by_refusal s i call (reply_of s i call)

-- The machine has no devices.
abbrev pub RepliesNameNoDevice : Type 0
RepliesNameNoDevice = (s : MachineState) (i : ℕ) (call : Call) → is_of_device (reply_of s i call) ≡ false
