-- Calls on the data of an open object: what they are refused with, and what they do to the object.
use Rattle.std.proofs.Common.{◌≡◌, ◌∙◌, ◌==◌, ◌&&◌, ◌+◌, ℕ, Bool, true, false, not, List, [], ◌∷◌, length, cond, Option, Some, None, refl, sym, ap, arith, le-ltb, pos, ◌+ℤ◌, int_lt, ℤ}
use Rattle.std.specs.Prelude.{nat_lt}
use Rattle.std.proofs.lemmas.Bool.{eqb-true}
use Rattle.std.specs.List.{list_any}
use Rattle.tee_types.specs.Rights.{has, read_bit, write_bit}
use Rattle.tee_types.specs.declared.call.Call.TheVariants.{Read, Write, Truncate, Seek, Info as InfoCall}
use Rattle.tee_types.specs.declared.call.Whence.{Whence}
use Rattle.tee_types.specs.declared.reply.Reply.{Reply}
use Rattle.tee_types.specs.declared.reply.Reply.TheVariants.{Done, Content, Refused, Misuse, Corrupt}
use Rattle.tee_types.specs.declared.reply.Code.TheVariants.{Overflow}
use Rattle.tee_types.specs.declared.reply.Reason.TheVariants.{BadHandle}
use Rattle.store_model.specs.declared.session.Handle.{Handle}
use Rattle.store_model.specs.Object.{Object, object_at, size_at, size_of}
use Rattle.store_model.specs.Machine.{Session, MachineState, Outcome, session_at, handle_at, with_handle, with_session, by_handle, by_right, of_sound, unless_refused}
use Rattle.store_model.specs.Data.{meets, bytes_at, with_position, read_of, read_from, write_of, write_from, write_refusals, truncate_refusals, truncate_of, truncate_from, seek_of, seek_base, at_least_zero, info_of, greatest_position}
use Rattle.store_model.specs.Calls.{size_by}
use Rattle.store_model.specs.Files.{is_misuse}
use Rattle.call_rules.specs.Objects.{HasObject, IsOfObject, RefusesRight, told_info}
use Rattle.call_rules.specs.Told.{IsTold, told}
use Rattle.call_rules.proofs.Refusals.{refused_told}
use Rattle.call_rules.proofs.Proper.{of_object, proper_unless}
use Rattle.call_rules.proofs.ByHandle.{misuse_not_done, by_right-has}

no_bytes : (n : ℕ) → (n == 0) ≡ true → nat_lt 0 n ≡ false
no_bytes n none = le-ltb 0 n (omega (arith, eqb-true n 0 none))

module _ (s : MachineState) (i : ℕ) (caller : Session) (is : session_at s i ≡ caller) (number : ℕ) where
  same_handle : handle_at (session_at s i) number ≡ handle_at caller number
  same_handle = ap (λ (x : Session). handle_at x number) is

  -- a call that needs a right is refused so
  pub right_told : (right : ℕ) (done : Handle → Outcome) (reply : Reply) → RefusesRight s right (handle_at caller number) reply
      → by_right s right (handle_at (session_at s i) number) done ≡ told s i reply caller
  right_told right done reply refuses = ap (λ (h : Option Handle). by_right s right h done) same_handle ∙ refuses done ∙ refused_told s i caller reply is

  pub right_done : (right : ℕ) (done : Handle → Outcome) (h : Handle) → handle_at caller number ≡ Some h → has h.flags right ≡ true
      → by_right s right (handle_at (session_at s i) number) done ≡ done h
  right_done right done h live has_right = by_right-has s right (handle_at (session_at s i) number) h done (same_handle ∙ live) has_right

  module _ (reply : Reply) (misuse : is_misuse reply ≡ true) where
    pub read_told : RefusesRight s read_bit (handle_at caller number) reply → (size : ℕ) → IsTold s i (Read number size) reply caller
    unfolding read_of
    read_told refuses size = record {
      outcome = right_told read_bit (λ handle. of_sound s (object_at s.objects handle.name) (read_from s i number size handle)) reply refuses;
      no_commit = refl;
      no_file = ap not misuse;
    }

    pub write_told : RefusesRight s write_bit (handle_at caller number) reply → (bytes : List ℕ) → IsTold s i (Write number bytes) reply caller
    unfolding write_of
    write_told refuses bytes = record {
      outcome = right_told write_bit
          (λ handle. cond (length bytes == 0) (record { reply = Done; next = s }) (of_sound s (object_at s.objects handle.name) (write_from s i number bytes handle))) reply refuses;
      no_commit = ap (λ (b : Bool). b && nat_lt 0 (length bytes)) (misuse_not_done reply misuse);
      no_file = ap (λ (b : Bool). not b && nat_lt 0 (length bytes)) misuse;
    }

    pub truncate_told : RefusesRight s write_bit (handle_at caller number) reply → (size : ℕ) → IsTold s i (Truncate number size) reply caller
    unfolding truncate_of
    truncate_told refuses size = record {
      outcome = right_told write_bit (λ handle. of_sound s (object_at s.objects handle.name) (truncate_from s size handle)) reply refuses;
      no_commit = ap (λ (b : Bool). b && not (size == size_by s.objects (handle_at (session_at s i) number))) (misuse_not_done reply misuse);
      no_file = ap not misuse;
    }

  pub info_told : handle_at caller number ≡ None → IsTold s i (InfoCall number) (Misuse BadHandle) caller
  unfolding info_of
  info_told none = record {
    outcome = ap (λ (h : Option Handle). by_handle s h (λ handle. of_sound s (object_at s.objects handle.name) (told_info s handle))) (same_handle ∙ none)
        ∙ refused_told s i caller (Misuse BadHandle) is;
    no_commit = refl;
    no_file = refl;
  }

  module _ (h : Handle) (live : handle_at caller number ≡ Some h) where
    pub info_of_object : (size : ℕ) → HasObject s.objects h.name size → IsOfObject s i (InfoCall number) h.name size (told_info s h)
    unfolding info_of
    info_of_object size there = of_object s i (InfoCall number) h.name size (told_info s h) there
        (ap (λ (h : Option Handle). by_handle s h (λ handle. of_sound s (object_at s.objects handle.name) (told_info s handle))) (same_handle ∙ live))
        (λ c. refl)

    pub read_of_object : has h.flags read_bit ≡ true → (size wanted : ℕ) → HasObject s.objects h.name size
        → IsOfObject s i (Read number wanted) h.name size (read_from s i number wanted h)
    unfolding read_of
    read_of_object has_right size wanted there = of_object s i (Read number wanted) h.name size (read_from s i number wanted h) there
        (right_done read_bit (λ handle. of_sound s (object_at s.objects handle.name) (read_from s i number wanted handle)) h live has_right)
        (λ c.
        let last = h.position + length (bytes_at c.bytes h.position wanted) in
        proper_unless ((list_any (meets (record { start = h.position; end = last })) c.bad, Corrupt) ∷ []) s
        (record { reply = Content (bytes_at c.bytes h.position wanted); next = with_position s i number h last }) (refl, tt) refl)

    pub truncate_of_object : has h.flags write_bit ≡ true → (size new : ℕ) → HasObject s.objects h.name size
        → IsOfObject s i (Truncate number new) h.name size (truncate_from s new h)
    unfolding truncate_of
    truncate_of_object has_right size new there = of_object s i (Truncate number new) h.name size (truncate_from s new h) there
        (right_done write_bit (λ handle. of_sound s (object_at s.objects handle.name) (truncate_from s new handle)) h live has_right)
        (λ c. proper_unless (truncate_refusals c new) s _ (refl, (refl, tt)) refl)

    abbrev writing : List ℕ → Handle → Outcome
    writing bytes handle = cond (length bytes == 0) (record { reply = Done; next = s }) (of_sound s (object_at s.objects handle.name) (write_from s i number bytes handle))

    pub write_nothing : has h.flags write_bit ≡ true → (bytes : List ℕ) → (length bytes == 0) ≡ true → IsTold s i (Write number bytes) Done caller
    unfolding write_of
    write_nothing has_right bytes none = record {
      outcome = right_done write_bit (writing bytes) h live has_right
          ∙ ap (λ (b : Bool). cond b (record { reply = Done; next = s }) (of_sound s (object_at s.objects h.name) (write_from s i number bytes h))) none
          ∙ refused_told s i caller Done is;
      no_commit = no_bytes (length bytes) none;
      no_file = no_bytes (length bytes) none;
    }

    pub write_of_object : has h.flags write_bit ≡ true → (bytes : List ℕ) → (length bytes == 0) ≡ false → (size : ℕ) → HasObject s.objects h.name size
        → IsOfObject s i (Write number bytes) h.name size (write_from s i number bytes h)
    unfolding write_of
    write_of_object has_right bytes some size there = of_object s i (Write number bytes) h.name size (write_from s i number bytes h) there
        (right_done write_bit (writing bytes) h live has_right
        ∙ ap (λ (b : Bool). cond b (record { reply = Done; next = s }) (of_sound s (object_at s.objects h.name) (write_from s i number bytes h))) some)
        (λ c. proper_unless (write_refusals c h.position (length bytes)) s _ (refl, (refl, (refl, tt))) refl)

module _ (s : MachineState) (i : ℕ) (caller : Session) (is : session_at s i ≡ caller) (number : ℕ) (offset : ℤ) (whence : Whence) where
  abbrev seeking : Session → Handle → Outcome
  seeking session handle =
      let target = pos (seek_base whence handle.position (size_at s.objects handle.name)) +ℤ offset in
      unless_refused ((int_lt (pos greatest_position) target, Refused Overflow) ∷ []) s
      (record { reply = Done; next = with_session s i (with_handle session number (record handle { position = at_least_zero target })) })

  pub seek_missed : handle_at caller number ≡ None → IsTold s i (Seek number offset whence) (Misuse BadHandle) caller
  unfolding seek_of
  seek_missed none = record {
    outcome = ap (λ (x : Session). by_handle s (handle_at x number) (seeking x)) is ∙ ap (λ (h : Option Handle). by_handle s h (seeking caller)) none
        ∙ refused_told s i caller (Misuse BadHandle) is;
    no_commit = refl;
    no_file = refl;
  }

  module _ (h : Handle) (live : handle_at caller number ≡ Some h) (size : ℕ) (there : HasObject s.objects h.name size) (base : ℕ) (counts : base ≡ seek_base whence h.position size) where
    abbrev target : ℤ
    target = pos base +ℤ offset

    has_size : size_at s.objects h.name ≡ size
    has_size = ap (λ (o : Option Object). elim o [ Some object ↦ size_of object | None ↦ 0 ]) there.at ∙ there.sized

    abbrev seek_to : ℤ → Bool → Outcome
    seek_to place far = unless_refused ((far, Refused Overflow) ∷ []) s
        (record { reply = Done; next = with_session s i (with_handle caller number (record h { position = at_least_zero place })) })

    sought_by : seeking caller h ≡ seek_to target (int_lt (pos greatest_position) target)
    sought_by = ap (λ (n : ℕ). let place = pos n +ℤ offset in seek_to place (int_lt (pos greatest_position) place))
        (ap (λ (n : ℕ). seek_base whence h.position n) has_size ∙ sym counts)

    sought : by_handle s (handle_at (session_at s i) number) (seeking (session_at s i)) ≡ seek_to target (int_lt (pos greatest_position) target)
    sought = ap (λ (x : Session). by_handle s (handle_at x number) (seeking x)) is ∙ ap (λ (h : Option Handle). by_handle s h (seeking caller)) live ∙ sought_by

    pub seek_far : (place : ℤ) → place ≡ offset → int_lt (pos greatest_position) (pos base +ℤ place) ≡ true → IsTold s i (Seek number offset whence) (Refused Overflow) caller
    unfolding seek_of
    seek_far place here far = record {
      outcome = sought ∙ ap (seek_to target) (ap (λ (n : ℤ). int_lt (pos greatest_position) (pos base +ℤ n)) (sym here) ∙ far) ∙ refused_told s i caller (Refused Overflow) is;
      no_commit = refl;
      no_file = refl;
    }

    pub seek_done : (place : ℤ) → place ≡ offset → int_lt (pos greatest_position) (pos base +ℤ place) ≡ false → (position : ℕ) → position ≡ at_least_zero (pos base +ℤ place)
        → (new : Session) → new ≡ with_handle caller number (record h { position = position }) → IsTold s i (Seek number offset whence) Done new
    unfolding seek_of
    seek_done place here near position at new left = record {
      outcome = sought ∙ ap (seek_to target) (ap (λ (n : ℤ). int_lt (pos greatest_position) (pos base +ℤ n)) (sym here) ∙ near)
          ∙ ap (told s i Done)
          (ap (λ (p : ℕ). with_handle caller number (record h { position = p })) (sym (at ∙ ap (λ (n : ℤ). at_least_zero (pos base +ℤ n)) here)) ∙ sym left);
      no_commit = refl;
      no_file = refl;
    }
