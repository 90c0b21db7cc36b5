-- What the machine answers to a Read and an Info by a live handle.
use Rattle.std.proofs.Common.{◌≡◌, ◌+◌, ℕ, Bool, true, false, List, [], ◌∷◌, length, Option, Some, refl, sym, ap, ◌∙◌}
use Rattle.std.specs.List.{list_any}
use Rattle.tee_types.specs.declared.call.Call.TheVariants.{Info, Open, Read}
use Rattle.tee_types.specs.declared.reply.Reply.TheVariants.{Content, Corrupt, Handle as HandleReply, Info as InfoReply}
use Rattle.tee_types.specs.declared.flags.Flags.{Flags}
use Rattle.tee_types.specs.Rights.{has, read_bit}
use Rattle.store_model.specs.Handles.{open_handle, open_of}
use Rattle.store_model.specs.declared.session.Handle.{Handle}
use Rattle.store_model.specs.Object.{Contents, Damaged, Object, Sound, is_damaged, object_at}
use Rattle.store_model.specs.Machine.{MachineState, Outcome, handle_at, name_in, of_sound, session_at, unless_refused}
use Rattle.store_model.specs.Data.{bytes_at, info_of, meets_block, read_from, read_of}
use Rattle.store_model.specs.Calls.{reply_of}
use Rattle.core_laws.specs.ReadLaws.{IsOpening}

module _ (s : MachineState) (i number count : ℕ) (handle : Handle) (live : handle_at (session_at s i) number ≡ Some handle) (right : has handle.flags read_bit ≡ true) where
  read_of-handle : read_of s i number count ≡ of_sound s (object_at s.objects handle.name) (read_from s i number count handle)
  unfolding read_of
  read_of-handle = rw (live, right) refl

  read-reply : (o : Object) → object_at s.objects handle.name ≡ Some o → reply_of s i (Read number count) ≡ (of_sound s (Some o) (read_from s i number count handle)).reply
  read-reply o there =
      ap (λ (x : Outcome). x.reply) read_of-handle
      ∙ ap (λ (x : Option Object). (of_sound s x (read_from s i number count handle)).reply) there

  pub read-damaged : (size : ℕ) → object_at s.objects handle.name ≡ Some (Damaged size) → reply_of s i (Read number count) ≡ Corrupt
  read-damaged size there = read-reply (Damaged size) there

  -- whether a read from that place meets a bad block
  abbrev pub meets_bad : Contents → ℕ → Bool
  meets_bad c p = list_any (meets_block p (p + length (bytes_at c.bytes p count))) c.bad

  from-bad : (c : Contents) → meets_bad c handle.position ≡ true → (read_from s i number count handle c).reply ≡ Corrupt
  from-bad c bad = rw bad refl

  from-good : (c : Contents) → meets_bad c handle.position ≡ false → (read_from s i number count handle c).reply ≡ Content (bytes_at c.bytes handle.position count)
  from-good c good = rw good refl

  pub read-bad : (c : Contents) (p : ℕ) → object_at s.objects handle.name ≡ Some (Sound c) → handle.position ≡ p → meets_bad c p ≡ true → reply_of s i (Read number count) ≡ Corrupt
  read-bad c p there at bad = read-reply (Sound c) there ∙ from-bad c (ap (meets_bad c) at ∙ bad)

  pub read-good : (c : Contents) (p : ℕ) → object_at s.objects handle.name ≡ Some (Sound c) → handle.position ≡ p → meets_bad c p ≡ false
      → reply_of s i (Read number count) ≡ Content (bytes_at c.bytes p count)
  read-good c p there at good = read-reply (Sound c) there ∙ from-good c (ap (meets_bad c) at ∙ good) ∙ ap (λ (q : ℕ). Content (bytes_at c.bytes q count)) at

module _ (s : MachineState) (i : ℕ) (id : List ℕ) (flags : Flags) (number : ℕ) (opens : IsOpening s i (name_in s i id) flags number) where
  open-rows : (o : Object) → object_at s.objects (name_in s i id) ≡ Some o
      → open_of s i id flags ≡ unless_refused ((is_damaged (Some o), Corrupt) ∷ []) s (open_handle s i (name_in s i id) flags)
  unfolding open_of
  open-rows o there = rw (opens.known, opens.few, there, opens.allowed) refl

  pub open-damaged : (size : ℕ) → object_at s.objects (name_in s i id) ≡ Some (Damaged size) → reply_of s i (Open id flags) ≡ Corrupt
  open-damaged size there = ap (λ (x : Outcome). x.reply) (open-rows (Damaged size) there)

  pub open-good : (c : Contents) → object_at s.objects (name_in s i id) ≡ Some (Sound c) → reply_of s i (Open id flags) ≡ HandleReply number
  open-good c there = ap (λ (x : Outcome). x.reply) (open-rows (Sound c) there) ∙ ap HandleReply (sym opens.is_next)

module _ (s : MachineState) (i number : ℕ) (handle : Handle) (live : handle_at (session_at s i) number ≡ Some handle) where
  abbrev told : Contents → Outcome
  told c = record { reply = InfoReply (length c.bytes) handle.position handle.flags c.attributes; next = s }

  info_of-handle : info_of s i number ≡ of_sound s (object_at s.objects handle.name) told
  unfolding info_of
  info_of-handle = rw live refl

  info-reply : (o : Object) → object_at s.objects handle.name ≡ Some o → reply_of s i (Info number) ≡ (of_sound s (Some o) told).reply
  info-reply o there = ap (λ (x : Outcome). x.reply) info_of-handle ∙ ap (λ (x : Option Object). (of_sound s x told).reply) there

  pub info-damaged : (size : ℕ) → object_at s.objects handle.name ≡ Some (Damaged size) → reply_of s i (Info number) ≡ Corrupt
  info-damaged size there = info-reply (Damaged size) there

  pub info-good : (c : Contents) → object_at s.objects handle.name ≡ Some (Sound c)
      → reply_of s i (Info number) ≡ InfoReply (length c.bytes) handle.position handle.flags c.attributes
  info-good c there = info-reply (Sound c) there
