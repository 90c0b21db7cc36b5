-- Calls on a sound object whose blocks are good, by a live handle.
use Rattle.std.proofs.Common.{◌≡◌, ◌==◌, ◌+◌, ℕ, true, false, List, [], length, Some, None, ap, ◌∙◌, cond}
use Rattle.tee_types.specs.Rights.{has}
use Rattle.tee_types.specs.declared.flags.TheConstants.{READ, WRITE}
use Rattle.tee_types.specs.declared.reply.Reply.{Reply}
use Rattle.tee_types.specs.declared.reply.Reply.TheVariants.{Done, Content, Info, Misuse}
use Rattle.tee_types.specs.declared.reply.Reason.TheVariants.{NoRight}
use Rattle.store_model.specs.declared.session.Handle.{Handle}
use Rattle.store_model.specs.Object.{Contents, Sound, object_at}
use Rattle.store_model.specs.Machine.{MachineState, Outcome, session_at, handle_at, refuse, first_refusal, by_handle, by_right, of_sound}
use Rattle.store_model.specs.Data.{read_of, read_from, write_of, write_from, write_refusals, truncate_of, truncate_from, truncate_refusals, info_of, with_position, with_contents, written, resized, bytes_at}

-- a sound object without bad blocks
abbrev pub good : List ℕ → List ℕ → Contents
good attributes bytes = record { attributes = attributes; bytes = bytes; bad = [] }

by_right-right : (s : MachineState) (right : ℕ) (handle : Handle) (done : Handle → Outcome) → has handle.flags right ≡ true → by_right s right (Some handle) done ≡ done handle
by_right-right s right handle done h = ap (λ b. cond b (done handle) (refuse s (Misuse NoRight))) h

abbrev pub written_outcome : MachineState → ℕ → ℕ → List ℕ → Handle → List ℕ → List ℕ → Outcome
written_outcome s i number new handle attributes bytes = record {
  reply = Done;
  next = with_position (with_contents s handle (good attributes (written bytes handle.position new))) i number handle (handle.position + length new);
}

abbrev pub truncated_outcome : MachineState → ℕ → Handle → List ℕ → List ℕ → Outcome
truncated_outcome s size handle attributes bytes = record { reply = Done; next = with_contents s handle (good attributes (resized bytes size)) }

pub read_of-good : (s : MachineState) (i number size : ℕ) (handle : Handle) (attributes bytes : List ℕ) → handle_at (session_at s i) number ≡ Some handle → has handle.flags READ ≡ true → object_at s.objects handle.name ≡ Some (Sound (good attributes bytes)) → read_of s i number size ≡ record {
  reply = Content (bytes_at bytes handle.position size);
  next = with_position s i number handle (handle.position + length (bytes_at bytes handle.position size));
}
unfolding read_of
read_of-good s i number size handle attributes bytes found right sound =
    ap (λ h. by_right s READ h (λ handle. of_sound s (object_at s.objects handle.name) (read_from s i number size handle))) found
    ∙ by_right-right s READ handle (λ handle. of_sound s (object_at s.objects handle.name) (read_from s i number size handle)) right
    ∙ ap (λ o. of_sound s o (read_from s i number size handle)) sound

pub write_of-good : (s : MachineState) (i number : ℕ) (new : List ℕ) (handle : Handle) (attributes bytes : List ℕ) → handle_at (session_at s i) number ≡ Some handle → has handle.flags WRITE ≡ true → (length new == 0) ≡ false → object_at s.objects handle.name ≡ Some (Sound (good attributes bytes)) → write_of s i number new ≡ write_from s i number new handle (good attributes bytes)
unfolding write_of
write_of-good s i number new handle attributes bytes found right some sound =
    ap (λ h. by_right s WRITE h (λ handle. cond (length new == 0) (record { reply = Done; next = s }) (of_sound s (object_at s.objects handle.name) (write_from s i number new handle)))) found
    ∙ by_right-right s WRITE handle (λ handle. cond (length new == 0) (record { reply = Done; next = s }) (of_sound s (object_at s.objects handle.name) (write_from s i number new handle))) right
    ∙ ap (λ b. cond b (record { reply = Done; next = s }) (of_sound s (object_at s.objects handle.name) (write_from s i number new handle))) some
    ∙ ap (λ o. of_sound s o (write_from s i number new handle)) sound

pub truncate_of-good : (s : MachineState) (i number size : ℕ) (handle : Handle) (attributes bytes : List ℕ) → handle_at (session_at s i) number ≡ Some handle → has handle.flags WRITE ≡ true → object_at s.objects handle.name ≡ Some (Sound (good attributes bytes)) → truncate_of s i number size ≡ truncate_from s size handle (good attributes bytes)
unfolding truncate_of
truncate_of-good s i number size handle attributes bytes found right sound =
    ap (λ h. by_right s WRITE h (λ handle. of_sound s (object_at s.objects handle.name) (truncate_from s size handle))) found
    ∙ by_right-right s WRITE handle (λ handle. of_sound s (object_at s.objects handle.name) (truncate_from s size handle)) right
    ∙ ap (λ o. of_sound s o (truncate_from s size handle)) sound

pub info_of-good : (s : MachineState) (i number : ℕ) (handle : Handle) (attributes bytes : List ℕ) → handle_at (session_at s i) number ≡ Some handle → object_at s.objects handle.name ≡ Some (Sound (good attributes bytes)) → info_of s i number ≡ record { reply = Info (length bytes) handle.position handle.flags attributes; next = s }
unfolding info_of
info_of-good s i number handle attributes bytes found sound =
    ap (λ h. by_handle s h (λ handle. of_sound s (object_at s.objects handle.name) (λ c. record { reply = Info (length c.bytes) handle.position handle.flags c.attributes; next = s }))) found
    ∙ ap (λ o. of_sound s o (λ c. record { reply = Info (length c.bytes) handle.position handle.flags c.attributes; next = s })) sound

-- what a write and a truncate are refused with, or do
pub write_of-refused : (s : MachineState) (i number : ℕ) (new : List ℕ) (handle : Handle) (attributes bytes : List ℕ) (reply : Reply) → handle_at (session_at s i) number ≡ Some handle → has handle.flags WRITE ≡ true → (length new == 0) ≡ false → object_at s.objects handle.name ≡ Some (Sound (good attributes bytes)) → first_refusal (write_refusals (good attributes bytes) handle.position (length new)) ≡ Some reply → write_of s i number new ≡ refuse s reply
write_of-refused s i number new handle attributes bytes reply found right some sound refused =
    write_of-good s i number new handle attributes bytes found right some sound
    ∙ ap (λ o. elim o [ Some reply ↦ refuse s reply | None ↦ written_outcome s i number new handle attributes bytes ]) refused

pub write_of-done : (s : MachineState) (i number : ℕ) (new : List ℕ) (handle : Handle) (attributes bytes : List ℕ) → handle_at (session_at s i) number ≡ Some handle → has handle.flags WRITE ≡ true → (length new == 0) ≡ false → object_at s.objects handle.name ≡ Some (Sound (good attributes bytes)) → first_refusal (write_refusals (good attributes bytes) handle.position (length new)) ≡ None → write_of s i number new ≡ written_outcome s i number new handle attributes bytes
write_of-done s i number new handle attributes bytes found right some sound done =
    write_of-good s i number new handle attributes bytes found right some sound
    ∙ ap (λ o. elim o [ Some reply ↦ refuse s reply | None ↦ written_outcome s i number new handle attributes bytes ]) done

pub truncate_of-refused : (s : MachineState) (i number size : ℕ) (handle : Handle) (attributes bytes : List ℕ) (reply : Reply) → handle_at (session_at s i) number ≡ Some handle → has handle.flags WRITE ≡ true → object_at s.objects handle.name ≡ Some (Sound (good attributes bytes)) → first_refusal (truncate_refusals (good attributes bytes) size) ≡ Some reply → truncate_of s i number size ≡ refuse s reply
truncate_of-refused s i number size handle attributes bytes reply found right sound refused =
    truncate_of-good s i number size handle attributes bytes found right sound
    ∙ ap (λ o. elim o [ Some reply ↦ refuse s reply | None ↦ truncated_outcome s size handle attributes bytes ]) refused

pub truncate_of-done : (s : MachineState) (i number size : ℕ) (handle : Handle) (attributes bytes : List ℕ) → handle_at (session_at s i) number ≡ Some handle → has handle.flags WRITE ≡ true → object_at s.objects handle.name ≡ Some (Sound (good attributes bytes)) → first_refusal (truncate_refusals (good attributes bytes) size) ≡ None → truncate_of s i number size ≡ truncated_outcome s size handle attributes bytes
truncate_of-done s i number size handle attributes bytes found right sound done =
    truncate_of-good s i number size handle attributes bytes found right sound
    ∙ ap (λ o. elim o [ Some reply ↦ refuse s reply | None ↦ truncated_outcome s size handle attributes bytes ]) done

pub ruleset data_calls = (read_of-good, write_of-refused, write_of-done, truncate_of-refused, truncate_of-done, info_of-good)
