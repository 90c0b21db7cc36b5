-- What the machine does at a Write and a Truncate by a live handle, where the object is sound and the change spoils no bad block.
use Rattle.std.proofs.Common.{◌≡◌, ◌+◌, ◌==◌, ℕ, zero, suc, true, false, true≢false, not, nat_lt, List, length, Option, Some, None, refl, ap, ◌∙◌, arith}
use Rattle.std.proofs.lemmas.Bool.{lt-ltb}
use Rattle.tee_types.specs.declared.call.Call.TheVariants.{Truncate, Write}
use Rattle.tee_types.specs.declared.reply.Reply.TheVariants.{Done}
use Rattle.tee_types.specs.Limits.{most_data_bytes}
use Rattle.tee_types.specs.Rights.{has, write_bit}
use Rattle.store_model.specs.declared.session.Handle.{Handle}
use Rattle.store_model.specs.Object.{Contents, Object, Sound, changed_object, object_at, size_of}
use Rattle.store_model.specs.Machine.{MachineState, Outcome, handle_at, of_sound, session_at}
use Rattle.store_model.specs.Data.{greatest_position, range_resized, range_written, resized_contents, spoils, truncate_from, truncate_of, with_contents, with_position, write_from, write_of, written_contents}
use Rattle.store_model.specs.Calls.{is_commit, reply_of, size_before, size_by}

-- what a call is whose reply is Done, which changes the object of the handle to these contents
pub record IsDone (s : MachineState) (handle : Handle) (outcome : Outcome) (after : Contents) : Type 0 where
  pub reply : outcome.reply ≡ Done
  pub objects : outcome.next.objects ≡ changed_object s.objects handle.name (Sound after)

some_bytes : (n : ℕ) → (n == 0) ≡ false → nat_lt 0 n ≡ true
some_bytes zero off = absurd (true≢false off)
some_bytes (suc n) off = lt-ltb 0 (suc n) (omega arith)

module _ (s : MachineState) (i number : ℕ) (handle : Handle) (live : handle_at (session_at s i) number ≡ Some handle) (right : has handle.flags write_bit ≡ true)
    (c : Contents) (there : object_at s.objects handle.name ≡ Some (Sound c)) where
  module _ (bytes : List ℕ) (some : (length bytes == 0) ≡ false) (low : nat_lt greatest_position (handle.position + length bytes) ≡ false)
      (fits : nat_lt most_data_bytes (handle.position + length bytes) ≡ false) (spares : spoils c (range_written c handle.position (length bytes)) ≡ false) where
    write_of-handle : write_of s i number bytes ≡ of_sound s (object_at s.objects handle.name) (write_from s i number bytes handle)
    unfolding write_of
    write_of-handle = rw (live, right, some) refl

    from-sound : write_from s i number bytes handle c
        ≡ record { reply = Done; next = with_position (with_contents s handle (written_contents c handle.position bytes)) i number handle (handle.position + length bytes) }
    from-sound = rw (low, fits, spares) refl

    written : write_of s i number bytes
        ≡ record { reply = Done; next = with_position (with_contents s handle (written_contents c handle.position bytes)) i number handle (handle.position + length bytes) }
    written = write_of-handle ∙ ap (λ (o : Option Object). of_sound s o (write_from s i number bytes handle)) there ∙ from-sound

    pub write_done : IsDone s handle (write_of s i number bytes) (written_contents c handle.position bytes)
    write_done = record { reply = ap (λ (x : Outcome). x.reply) written; objects = ap (λ (x : Outcome). x.next.objects) written }

    pub write_commits : is_commit s i (Write number bytes) (reply_of s i (Write number bytes)) ≡ true
    write_commits = ap (is_commit s i (Write number bytes)) (ap (λ (x : Outcome). x.reply) written) ∙ some_bytes (length bytes) some

  module _ (size : ℕ) (other : (size == length c.bytes) ≡ false) (fits : nat_lt most_data_bytes size ≡ false) (spares : spoils c (range_resized c size) ≡ false) where
    truncate_of-handle : truncate_of s i number size ≡ of_sound s (object_at s.objects handle.name) (truncate_from s size handle)
    unfolding truncate_of
    truncate_of-handle = rw (live, right) refl

    cut-sound : truncate_from s size handle c ≡ record { reply = Done; next = with_contents s handle (resized_contents c size) }
    cut-sound = rw (fits, spares) refl

    cut : truncate_of s i number size ≡ record { reply = Done; next = with_contents s handle (resized_contents c size) }
    cut = truncate_of-handle ∙ ap (λ (o : Option Object). of_sound s o (truncate_from s size handle)) there ∙ cut-sound

    pub truncate_done : IsDone s handle (truncate_of s i number size) (resized_contents c size)
    truncate_done = record { reply = ap (λ (x : Outcome). x.reply) cut; objects = ap (λ (x : Outcome). x.next.objects) cut }

    size-is : size_before s i (Truncate number size) ≡ length c.bytes
    size-is =
        ap (size_by s.objects) live
        ∙ ap (λ (o : Option Object). elim o as (λ _. ℕ) [ Some object ↦ size_of object | None ↦ 0 ]) there

    pub truncate_commits : is_commit s i (Truncate number size) (reply_of s i (Truncate number size)) ≡ true
    truncate_commits =
        ap (is_commit s i (Truncate number size)) (ap (λ (x : Outcome). x.reply) cut)
        ∙ ap (λ (n : ℕ). not (size == n)) size-is ∙ ap not other
