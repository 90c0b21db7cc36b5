-- A refused call changes nothing, but for the start that finds no object; and no reply is a device's.
use Rattle.std.proofs.Common.{◌≡◌, ◌==◌, ◌+◌, ℕ, Bool, true, false, List, [], ◌∷◌, Option, Some, None, cond, length, sym, ap, ◌∙◌, refl, true≢false, pos, ◌+ℤ◌, int_lt}
use Rattle.std.specs.List.{list_any}
use Rattle.tee_types.specs.Rights.{has}
use Rattle.tee_types.specs.declared.flags.TheConstants.{READ, WRITE, WRITE_META}
use Rattle.tee_types.specs.declared.call.Call.{Call}
use Rattle.tee_types.specs.declared.call.Call.TheVariants.{Create, Open, Close, Read, Write, Truncate, Seek, Rename, Delete, Info, EnumNew, EnumStart, EnumNext, EnumReset, EnumFree}
use Rattle.tee_types.specs.declared.reply.Reply.{Reply}
use Rattle.tee_types.specs.declared.reply.Reply.TheVariants.{Done, Misuse, Corrupt, Refused}
use Rattle.tee_types.specs.declared.reply.Code.TheVariants.{ItemNotFound, Overflow, AccessConflict}
use Rattle.tee_types.specs.declared.reply.Reason.TheVariants.{BadHandle, BadEnumerator, NoRight, TooMany}
use Rattle.enumerators.specs.declared.cursor.Cursor.{Cursor}
use Rattle.enumerators.specs.Enumeration.{cursor_at, has_all, reset, started}
use Rattle.store_model.specs.declared.session.Handle.{Handle}
use Rattle.store_model.specs.Object.{Object, Contents, Sound, Damaged, object_at, size_at, holds}
use Rattle.store_model.specs.Machine.{MachineState, Outcome, session_at, name_in, handle_at, unless_refused, refuse, by_handle, by_right, of_sound}
use Rattle.store_model.specs.Handles.{create_of, open_of, close_of, create_refusals, open_refusals}
use Rattle.store_model.specs.Data.{read_of, meets_block, bytes_at, write_of, write_refusals, truncate_of, truncate_refusals, seek_of, seek_base, info_of}
use Rattle.store_model.specs.Naming.{rename_of, delete_of}
use Rattle.store_model.specs.Enumerating.{enum_new_of, enum_start_of, enum_next_of, enum_reset_of, enum_free_of, by_cursor, enum_gives, with_enumerators}
use Rattle.store_model.specs.Calls.{outcome_of}
use Rattle.store_model.specs.Answer.{IsOutcome}
use Rattle.store_model.specs.Refusal.{is_refusal, is_of_device, left_by_refusal, RefusalsChangeNothing, RepliesNameNoDevice}

-- where the outcome's reply is a refusal, nothing changed; and no device has a part in the reply
pub record IsQuiet (s : MachineState) (outcome : Outcome) : Type 0 where
  pub kept : is_refusal outcome.reply ≡ true → outcome.next ≡ s
  pub alone : is_of_device outcome.reply ≡ false

-- no row refuses with a device's reply
abbrev NoneOfDevice : List (Bool × Reply) → Type 0
NoneOfDevice [] = Unit {0}
NoneOfDevice (row ∷ rows) = (is_of_device row.1 ≡ false) × NoneOfDevice rows

IsQuiet-refuse : (s : MachineState) (reply : Reply) → is_of_device reply ≡ false → IsQuiet s (refuse s reply)
IsQuiet-refuse s reply alone = record { kept = λ _. refl; alone = alone }

IsQuiet-done : (s : MachineState) (outcome : Outcome) → is_refusal outcome.reply ≡ false → is_of_device outcome.reply ≡ false → IsQuiet s outcome
IsQuiet-done s outcome done alone = record { kept = λ refused. absurd (true≢false (sym refused ∙ done)); alone = alone }

IsQuiet-unless_refused : (rows : List (Bool × Reply)) (s : MachineState) (done : Outcome) → NoneOfDevice rows → IsQuiet s done → IsQuiet s (unless_refused rows s done)
IsQuiet-unless_refused [] s done h q = q
IsQuiet-unless_refused ((true, reply) ∷ rows) s done h q = IsQuiet-refuse s reply h.0
IsQuiet-unless_refused ((false, reply) ∷ rows) s done h q = IsQuiet-unless_refused rows s done h.1 q

IsQuiet-cond : (b : Bool) (s : MachineState) (one other : Outcome) → IsQuiet s one → IsQuiet s other → IsQuiet s (cond b one other)
IsQuiet-cond true s one other p q = p
IsQuiet-cond false s one other p q = q

IsQuiet-row : (b : Bool) (reply : Reply) (s : MachineState) (done : Outcome) → is_of_device reply ≡ false → IsQuiet s done → IsQuiet s (unless_refused ((b, reply) ∷ []) s done)
IsQuiet-row b reply s done h q = IsQuiet-unless_refused ((b, reply) ∷ []) s done (h, tt) q

IsQuiet-by_handle : (s : MachineState) (handle : Option Handle) (done : Handle → Outcome) → ((handle : Handle) → IsQuiet s (done handle)) → IsQuiet s (by_handle s handle done)
IsQuiet-by_handle s None done q = IsQuiet-refuse s (Misuse BadHandle) refl
IsQuiet-by_handle s (Some handle) done q = q handle

IsQuiet-by_right : (s : MachineState) (right : ℕ) (handle : Option Handle) (done : Handle → Outcome) → ((handle : Handle) → IsQuiet s (done handle)) → IsQuiet s (by_right s right handle done)
IsQuiet-by_right s right None done q = IsQuiet-refuse s (Misuse BadHandle) refl
IsQuiet-by_right s right (Some handle) done q = IsQuiet-cond (has handle.flags right) s (done handle) (refuse s (Misuse NoRight)) (q handle) (IsQuiet-refuse s (Misuse NoRight) refl)

IsQuiet-of_sound : (s : MachineState) (object : Option Object) (done : Contents → Outcome) → ((contents : Contents) → IsQuiet s (done contents)) → IsQuiet s (of_sound s object done)
IsQuiet-of_sound s None done q = IsQuiet-refuse s (Misuse BadHandle) refl
IsQuiet-of_sound s (Some (Damaged n)) done q = IsQuiet-refuse s Corrupt refl
IsQuiet-of_sound s (Some (Sound contents)) done q = q contents

IsQuiet-by_cursor : (s : MachineState) (cursor : Option Cursor) (done : Cursor → Outcome) → ((cursor : Cursor) → IsQuiet s (done cursor)) → IsQuiet s (by_cursor s cursor done)
IsQuiet-by_cursor s None done q = IsQuiet-refuse s (Misuse BadEnumerator) refl
IsQuiet-by_cursor s (Some cursor) done q = q cursor

IsQuiet-enum_gives : (s : MachineState) (i number : ℕ) (next : Option (List ℕ × ℕ)) → IsQuiet s (enum_gives s i number next)
IsQuiet-enum_gives s i number None = IsQuiet-refuse s (Refused ItemNotFound) refl
IsQuiet-enum_gives s i number (Some (id, size)) = IsQuiet-done s _ refl refl

-- the call is a start, which alone changes something where it is refused
abbrev is_start : Call → Bool
is_start (EnumStart number) = true
is_start _ = false

IsQuiet-outcome_of : (s : MachineState) (i : ℕ) (call : Call) → is_start call ≡ false → IsQuiet s (outcome_of s i call)
unfolding create_of open_of close_of read_of write_of truncate_of seek_of info_of rename_of delete_of enum_new_of enum_next_of enum_reset_of enum_free_of
IsQuiet-outcome_of s i (Create id flags attributes bytes) other =
    IsQuiet-unless_refused (create_refusals s i (name_in s i id) flags attributes bytes) s _
    (refl, (refl, (refl, (refl, (refl, (refl, tt)))))) (IsQuiet-done s _ refl refl)
IsQuiet-outcome_of s i (Open id flags) other =
    IsQuiet-unless_refused (open_refusals s i (name_in s i id) flags) s _
    (refl, (refl, (refl, (refl, (refl, tt))))) (IsQuiet-done s _ refl refl)
IsQuiet-outcome_of s i (Close number) other = IsQuiet-by_handle s (handle_at (session_at s i) number) _ (λ handle. IsQuiet-done s _ refl refl)
IsQuiet-outcome_of s i (Read number size) other =
    IsQuiet-by_right s READ (handle_at (session_at s i) number) _
    (λ handle. IsQuiet-of_sound s (object_at s.objects handle.name) _ (λ c. IsQuiet-row (list_any (meets_block handle.position (handle.position + length (bytes_at c.bytes handle.position size))) c.bad) Corrupt s _ refl (IsQuiet-done s _ refl refl)))
IsQuiet-outcome_of s i (Write number bytes) other =
    IsQuiet-by_right s WRITE (handle_at (session_at s i) number) _
    (λ handle. IsQuiet-cond (length bytes == 0) s _ _ (IsQuiet-done s _ refl refl)
    (IsQuiet-of_sound s (object_at s.objects handle.name) _ (λ c. IsQuiet-unless_refused (write_refusals c handle.position (length bytes)) s _ (refl, (refl, (refl, tt))) (IsQuiet-done s _ refl refl))))
IsQuiet-outcome_of s i (Truncate number size) other =
    IsQuiet-by_right s WRITE (handle_at (session_at s i) number) _
    (λ handle. IsQuiet-of_sound s (object_at s.objects handle.name) _ (λ c. IsQuiet-unless_refused (truncate_refusals c size) s _ (refl, (refl, tt)) (IsQuiet-done s _ refl refl)))
IsQuiet-outcome_of s i (Seek number offset whence) other =
    IsQuiet-by_handle s (handle_at (session_at s i) number) _ (λ handle. IsQuiet-row (int_lt (pos 4294967295) (pos (seek_base whence handle.position (size_at s.objects handle.name)) +ℤ offset)) (Refused Overflow) s _ refl (IsQuiet-done s _ refl refl))
IsQuiet-outcome_of s i (Rename number id) other =
    IsQuiet-by_right s WRITE_META (handle_at (session_at s i) number) _ (λ handle. IsQuiet-row (holds s.objects (name_in s i id)) (Refused AccessConflict) s _ refl (IsQuiet-done s _ refl refl))
IsQuiet-outcome_of s i (Delete number) other =
    IsQuiet-by_right s WRITE_META (handle_at (session_at s i) number) _ (λ handle. IsQuiet-done s _ refl refl)
IsQuiet-outcome_of s i (Info number) other =
    IsQuiet-by_handle s (handle_at (session_at s i) number) _ (λ handle. IsQuiet-of_sound s (object_at s.objects handle.name) _ (λ c. IsQuiet-done s _ refl refl))
IsQuiet-outcome_of s i EnumNew other = IsQuiet-row (has_all (session_at s i).enumerators) (Misuse TooMany) s _ refl (IsQuiet-done s _ refl refl)
IsQuiet-outcome_of s i (EnumStart number) other = absurd (true≢false other)
IsQuiet-outcome_of s i (EnumNext number) other =
    IsQuiet-by_cursor s (cursor_at (session_at s i).enumerators number) _ (λ cursor. IsQuiet-enum_gives s i number _)
IsQuiet-outcome_of s i (EnumReset number) other = IsQuiet-by_cursor s (cursor_at (session_at s i).enumerators number) _ (λ cursor. IsQuiet-done s _ refl refl)
IsQuiet-outcome_of s i (EnumFree number) other = IsQuiet-by_cursor s (cursor_at (session_at s i).enumerators number) _ (λ cursor. IsQuiet-done s _ refl refl)

-- what a start leaves where it is refused
record IsStartQuiet (s : MachineState) (i number : ℕ) (outcome : Outcome) : Type 0 where
  kept : is_refusal outcome.reply ≡ true → outcome.next ≡ left_by_refusal s i (EnumStart number) outcome.reply
  alone : is_of_device outcome.reply ≡ false

IsStartQuiet-found : (s : MachineState) (i number : ℕ) (lacks : Bool) → IsStartQuiet s i number (unless_refused ((lacks, Refused ItemNotFound) ∷ []) (with_enumerators s i (reset (session_at s i).enumerators number)) (record { reply = Done; next = with_enumerators s i (started (session_at s i).enumerators number) }))
IsStartQuiet-found s i number true = record { kept = λ _. refl; alone = refl }
IsStartQuiet-found s i number false = record { kept = λ refused. absurd (true≢false (sym refused)); alone = refl }

IsStartQuiet-by_cursor : (s : MachineState) (i number : ℕ) (cursor : Option Cursor) (done : Cursor → Outcome) → ((cursor : Cursor) → IsStartQuiet s i number (done cursor)) → IsStartQuiet s i number (by_cursor s cursor done)
IsStartQuiet-by_cursor s i number None done q = record { kept = λ _. refl; alone = refl }
IsStartQuiet-by_cursor s i number (Some cursor) done q = q cursor

IsStartQuiet-enum_start_of : (s : MachineState) (i number : ℕ) → IsStartQuiet s i number (enum_start_of s i number)
unfolding enum_start_of
IsStartQuiet-enum_start_of s i number =
    IsStartQuiet-by_cursor s i number (cursor_at (session_at s i).enumerators number) _ (λ cursor. IsStartQuiet-found s i number _)

pub refusals_change_nothing : RefusalsChangeNothing
refusals_change_nothing s i (EnumStart number) h = (IsStartQuiet-enum_start_of s i number).kept h
refusals_change_nothing s i (Create id flags attributes bytes) h = (IsQuiet-outcome_of s i (Create id flags attributes bytes) refl).kept h
refusals_change_nothing s i (Open id flags) h = (IsQuiet-outcome_of s i (Open id flags) refl).kept h
refusals_change_nothing s i (Close n) h = (IsQuiet-outcome_of s i (Close n) refl).kept h
refusals_change_nothing s i (Read n size) h = (IsQuiet-outcome_of s i (Read n size) refl).kept h
refusals_change_nothing s i (Write n bytes) h = (IsQuiet-outcome_of s i (Write n bytes) refl).kept h
refusals_change_nothing s i (Truncate n size) h = (IsQuiet-outcome_of s i (Truncate n size) refl).kept h
refusals_change_nothing s i (Seek n offset whence) h = (IsQuiet-outcome_of s i (Seek n offset whence) refl).kept h
refusals_change_nothing s i (Rename n id) h = (IsQuiet-outcome_of s i (Rename n id) refl).kept h
refusals_change_nothing s i (Delete n) h = (IsQuiet-outcome_of s i (Delete n) refl).kept h
refusals_change_nothing s i (Info n) h = (IsQuiet-outcome_of s i (Info n) refl).kept h
refusals_change_nothing s i EnumNew h = (IsQuiet-outcome_of s i EnumNew refl).kept h
refusals_change_nothing s i (EnumNext n) h = (IsQuiet-outcome_of s i (EnumNext n) refl).kept h
refusals_change_nothing s i (EnumReset n) h = (IsQuiet-outcome_of s i (EnumReset n) refl).kept h
refusals_change_nothing s i (EnumFree n) h = (IsQuiet-outcome_of s i (EnumFree n) refl).kept h

pub replies_name_no_device : RepliesNameNoDevice
replies_name_no_device s i (EnumStart number) = (IsStartQuiet-enum_start_of s i number).alone
replies_name_no_device s i (Create id flags attributes bytes) = (IsQuiet-outcome_of s i (Create id flags attributes bytes) refl).alone
replies_name_no_device s i (Open id flags) = (IsQuiet-outcome_of s i (Open id flags) refl).alone
replies_name_no_device s i (Close n) = (IsQuiet-outcome_of s i (Close n) refl).alone
replies_name_no_device s i (Read n size) = (IsQuiet-outcome_of s i (Read n size) refl).alone
replies_name_no_device s i (Write n bytes) = (IsQuiet-outcome_of s i (Write n bytes) refl).alone
replies_name_no_device s i (Truncate n size) = (IsQuiet-outcome_of s i (Truncate n size) refl).alone
replies_name_no_device s i (Seek n offset whence) = (IsQuiet-outcome_of s i (Seek n offset whence) refl).alone
replies_name_no_device s i (Rename n id) = (IsQuiet-outcome_of s i (Rename n id) refl).alone
replies_name_no_device s i (Delete n) = (IsQuiet-outcome_of s i (Delete n) refl).alone
replies_name_no_device s i (Info n) = (IsQuiet-outcome_of s i (Info n) refl).alone
replies_name_no_device s i EnumNew = (IsQuiet-outcome_of s i EnumNew refl).alone
replies_name_no_device s i (EnumNext n) = (IsQuiet-outcome_of s i (EnumNext n) refl).alone
replies_name_no_device s i (EnumReset n) = (IsQuiet-outcome_of s i (EnumReset n) refl).alone
replies_name_no_device s i (EnumFree n) = (IsQuiet-outcome_of s i (EnumFree n) refl).alone

-- the same of what the program answers
pub kept-IsOutcome : (s : MachineState) (i : ℕ) (call : Call) (reply : Reply) (new : MachineState) → IsOutcome (outcome_of s i call) reply new → is_refusal reply ≡ true → new ≡ left_by_refusal s i call reply
kept-IsOutcome s i call reply new h refused =
    h.changed ∙ refusals_change_nothing s i call (ap is_refusal (sym h.replied) ∙ refused) ∙ ap (left_by_refusal s i call) (sym h.replied)

pub alone-IsOutcome : (s : MachineState) (i : ℕ) (call : Call) (reply : Reply) (new : MachineState) → IsOutcome (outcome_of s i call) reply new → is_of_device reply ≡ false
alone-IsOutcome s i call reply new h = ap is_of_device h.replied ∙ replies_name_no_device s i call
