-- A call changes no session but its own.
use Rattle.std.proofs.Common.{◌≡◌, ◌≢◌, ◌==◌, ℕ, Bool, List, [], ◌∷◌, length, slice_set, slice_index_or, true, false, cond, not, ◌+◌, pos, ◌+ℤ◌, int_lt, Option, Some, None, refl}
use Rattle.std.specs.List.{list_any}
use Rattle.std.proofs.lemmas.List.{get_or-set_other}
use Rattle.tee_types.specs.declared.call.Call.{Call}
use Rattle.tee_types.specs.declared.call.Call.TheVariants.{Create, Open, Close, Read, Write, Truncate, Seek, Rename, Delete, Info, EnumNew, EnumStart, EnumNext, EnumReset, EnumFree}
use Rattle.tee_types.specs.declared.flags.TheConstants.{READ, WRITE, WRITE_META}
use Rattle.tee_types.specs.declared.reply.Reply.{Reply}
use Rattle.tee_types.specs.declared.reply.Reply.TheVariants.{Misuse, Corrupt, Refused}
use Rattle.tee_types.specs.declared.reply.Code.TheVariants.{ItemNotFound, Overflow, AccessConflict}
use Rattle.tee_types.specs.declared.reply.Reason.TheVariants.{NoRight, TooMany}
use Rattle.tee_types.specs.Rights.{has}
use Rattle.enumerators.specs.declared.cursor.Cursor.{Cursor}
use Rattle.enumerators.specs.Enumeration.{cursor_at, has_all, reset}
use Rattle.store_model.specs.declared.session.Handle.{Handle}
use Rattle.store_model.specs.Object.{Object, Contents, Sound, Damaged, object_at, size_at, holds}
use Rattle.store_model.specs.Machine.{MachineState, Outcome, Session, new_session, session_at, name_in, handle_at, unless_refused, first_refusal, refuse, by_handle, by_right, of_sound}
use Rattle.store_model.specs.Handles.{create_of, open_of, close_of, create_refusals, open_refusals}
use Rattle.store_model.specs.Data.{read_of, meets_block, bytes_at, write_of, write_refusals, truncate_of, truncate_refusals, seek_of, seek_base, info_of}
use Rattle.store_model.specs.Naming.{rename_of, delete_of}
use Rattle.store_model.specs.Enumerating.{enum_new_of, enum_start_of, enum_next_of, enum_reset_of, enum_free_of, by_cursor, enum_gives, is_of, with_enumerators}
use Rattle.store_model.specs.Calls.{state_after}
use Rattle.store_model.specs.Laws.{OtherSessionsStay}

module _ (k : ℕ) where
  -- the outcome leaves session k as it is in the state
  abbrev Leaves : MachineState → Outcome → Type 0
  Leaves s outcome = session_at outcome.next k ≡ session_at s k

  Leaves-unless_refused : (rows : List (Bool × Reply)) (s t : MachineState) (done : Outcome) → session_at t k ≡ session_at s k → Leaves s done → Leaves s (unless_refused rows t done)
  Leaves-unless_refused rows s t done kept h = elim (first_refusal rows) as (λ first. Leaves s (elim first [ Some reply ↦ refuse t reply | None ↦ done ])) [
    | Some reply ↦ kept
    | None ↦ h
  ]

  Leaves-cond : (b : Bool) (s : MachineState) (one other : Outcome) → Leaves s one → Leaves s other → Leaves s (cond b one other)
  Leaves-cond true s one other p q = p
  Leaves-cond false s one other p q = q

  Leaves-by_handle : (s : MachineState) (handle : Option Handle) (done : Handle → Outcome) → ((handle : Handle) → Leaves s (done handle)) → Leaves s (by_handle s handle done)
  Leaves-by_handle s None done h = refl
  Leaves-by_handle s (Some handle) done h = h handle

  Leaves-by_right : (s : MachineState) (right : ℕ) (handle : Option Handle) (done : Handle → Outcome) → ((handle : Handle) → Leaves s (done handle)) → Leaves s (by_right s right handle done)
  Leaves-by_right s right None done h = refl
  Leaves-by_right s right (Some handle) done h = Leaves-cond (has handle.flags right) s (done handle) (refuse s (Misuse NoRight)) (h handle) refl

  Leaves-of_sound : (s : MachineState) (object : Option Object) (done : Contents → Outcome) → ((contents : Contents) → Leaves s (done contents)) → Leaves s (of_sound s object done)
  Leaves-of_sound s None done h = refl
  Leaves-of_sound s (Some (Damaged n)) done h = refl
  Leaves-of_sound s (Some (Sound contents)) done h = h contents

  Leaves-by_cursor : (s : MachineState) (cursor : Option Cursor) (done : Cursor → Outcome) → ((cursor : Cursor) → Leaves s (done cursor)) → Leaves s (by_cursor s cursor done)
  Leaves-by_cursor s None done h = refl
  Leaves-by_cursor s (Some cursor) done h = h cursor

  -- another session was set
  other : (s : MachineState) (i : ℕ) (x : Session) → k ≢ i → slice_index_or (slice_set s.sessions i x) k (new_session []) ≡ session_at s k
  other s i x apart = get_or-set_other s.sessions i k x (new_session []) apart

  Leaves-enum_gives : (s : MachineState) (i number : ℕ) (next : Option (List ℕ × ℕ)) → k ≢ i → Leaves s (enum_gives s i number next)
  Leaves-enum_gives s i number None apart = refl
  Leaves-enum_gives s i number (Some (id, size)) apart = other s i _ apart

  pub session-state_after : (s : MachineState) (i : ℕ) (call : Call) → k ≢ i → session_at (state_after s i call) k ≡ session_at s k
  unfolding create_of open_of close_of read_of write_of truncate_of seek_of info_of rename_of delete_of enum_new_of enum_start_of enum_next_of enum_reset_of enum_free_of
  session-state_after s i (Create id flags attributes bytes) apart =
      Leaves-unless_refused (create_refusals s i (name_in s i id) flags attributes bytes) s s _ refl (other s i _ apart)
  session-state_after s i (Open id flags) apart = Leaves-unless_refused (open_refusals s i (name_in s i id) flags) s s _ refl (other s i _ apart)
  session-state_after s i (Close number) apart = Leaves-by_handle s (handle_at (session_at s i) number) _ (λ handle. other s i _ apart)
  session-state_after s i (Read number size) apart =
      Leaves-by_right s READ (handle_at (session_at s i) number) _
      (λ handle. Leaves-of_sound s (object_at s.objects handle.name) _ (λ c. Leaves-unless_refused ((list_any (meets_block handle.position (handle.position + length (bytes_at c.bytes handle.position size))) c.bad, Corrupt) ∷ []) s s _ refl (other s i _ apart)))
  session-state_after s i (Write number bytes) apart =
      Leaves-by_right s WRITE (handle_at (session_at s i) number) _
      (λ handle. Leaves-cond (length bytes == 0) s _ _ refl
      (Leaves-of_sound s (object_at s.objects handle.name) _ (λ c. Leaves-unless_refused (write_refusals c handle.position (length bytes)) s s _ refl (other s i _ apart))))
  session-state_after s i (Truncate number size) apart =
      Leaves-by_right s WRITE (handle_at (session_at s i) number) _
      (λ handle. Leaves-of_sound s (object_at s.objects handle.name) _ (λ c. Leaves-unless_refused (truncate_refusals c size) s s _ refl refl))
  session-state_after s i (Seek number offset whence) apart =
      Leaves-by_handle s (handle_at (session_at s i) number) _
      (λ handle. Leaves-unless_refused ((int_lt (pos 4294967295) (pos (seek_base whence handle.position (size_at s.objects handle.name)) +ℤ offset), Refused Overflow) ∷ []) s s _ refl (other s i _ apart))
  session-state_after s i (Rename number id) apart =
      Leaves-by_right s WRITE_META (handle_at (session_at s i) number) _ (λ handle. Leaves-unless_refused ((holds s.objects (name_in s i id), Refused AccessConflict) ∷ []) s s _ refl (other s i _ apart))
  session-state_after s i (Delete number) apart = Leaves-by_right s WRITE_META (handle_at (session_at s i) number) _ (λ handle. other s i _ apart)
  session-state_after s i (Info number) apart =
      Leaves-by_handle s (handle_at (session_at s i) number) _ (λ handle. Leaves-of_sound s (object_at s.objects handle.name) _ (λ c. refl))
  session-state_after s i EnumNew apart = Leaves-unless_refused ((has_all (session_at s i).enumerators, Misuse TooMany) ∷ []) s s _ refl (other s i _ apart)
  session-state_after s i (EnumStart number) apart =
      Leaves-by_cursor s (cursor_at (session_at s i).enumerators number) _
      (λ cursor. Leaves-unless_refused ((not (list_any (is_of (session_at s i).application) s.objects), Refused ItemNotFound) ∷ []) s (with_enumerators s i (reset (session_at s i).enumerators number)) _ (other s i _ apart) (other s i _ apart))
  session-state_after s i (EnumNext number) apart = Leaves-by_cursor s (cursor_at (session_at s i).enumerators number) _ (λ cursor. Leaves-enum_gives s i number _ apart)
  session-state_after s i (EnumReset number) apart = Leaves-by_cursor s (cursor_at (session_at s i).enumerators number) _ (λ cursor. other s i _ apart)
  session-state_after s i (EnumFree number) apart = Leaves-by_cursor s (cursor_at (session_at s i).enumerators number) _ (λ cursor. other s i _ apart)

pub other_sessions_stay : OtherSessionsStay
other_sessions_stay s i k call apart = session-state_after k s i call apart
