-- A call over the state as if each object were sound with no bad block: it is answered alike but where damage has the blame, and leaves
-- the same names and sizes.
use Rattle.std.proofs.Common.{◌≡◌, ◌+◌, ℕ, Bool, true, false, cond, not, ◌||◌, List, [], ◌∷◌, ◌++◌, length, replicate, refl, sym, ap, ◌∙◌, subst, inr, Option, Some, None, true≢false}
use Rattle.std.specs.Prelude.{◌==◌, nat_lt}
use Rattle.std.specs.List.{list_any, list_all}
use Rattle.std.specs.Option.{option_map}
use Rattle.tee_types.specs.Limits.{most_data_bytes}
use Rattle.tee_types.specs.Rights.{has, is_known, overwrite_bit, read_bit, write_bit}
use Rattle.tee_types.specs.declared.flags.Flags.{Flags}
use Rattle.tee_types.specs.declared.call.Call.{Call}
use Rattle.tee_types.specs.declared.call.Call.TheVariants.{Create, Open, Close, Read, Write, Truncate, Seek, Rename, Delete, Info, EnumNew, EnumStart, EnumNext, EnumReset, EnumFree}
use Rattle.tee_types.specs.declared.reply.Reply.{Reply}
use Rattle.tee_types.specs.declared.reply.Reply.TheVariants.{Misuse, Corrupt, Refused}
use Rattle.tee_types.specs.declared.reply.Code.TheVariants.{AccessConflict, ItemNotFound, NoSpace, Overflow}
use Rattle.tee_types.specs.declared.reply.Reason.TheVariants.{BadHandle, BadFlags, TooMany, NoRight}
use Rattle.store_model.specs.declared.session.Handle.{Handle}
use Rattle.store_model.specs.declared.name.ObjectName.{ObjectName}
use Rattle.store_model.specs.Object.{Object, Contents, Sound, Damaged, object_at, holds, is_damaged, moved_object, without_object}
use Rattle.store_model.specs.Machine.{MachineState, Outcome, session_at, name_in, handle_at, has_all_handles, unless_refused, refuse, by_handle, by_right, of_sound}
use Rattle.store_model.specs.Handles.{open_of, open_handle, allows_open}
use Rattle.store_model.specs.Data.{read_of, read_from, bytes_at, meets_block, write_of, write_from, truncate_of, truncate_from, spoils, range_written, range_resized, written_contents, resized_contents, greatest_position, info_of}
use Rattle.store_model.specs.Calls.{outcome_of, reply_of, state_after, is_done, is_commit}
use Rattle.store_model.specs.Files.{is_corrupt, reads_file}
use Rattle.store_model.proofs.Maps.{at}
use Rattle.store_model.proofs.MapLaws.{lookup-mapped}
use Rattle.store_model.proofs.Closeness.{listing, same-holds}
use Rattle.store_model.proofs.InStep.{agree}
use Rattle.store_model.proofs.CloseCommits.{rename-left, delete-left}
use Rattle.store_model.proofs.QuietCalls.{others_keep_maps}
use Rattle.app_totals.specs.Meant.{sound_object, sound_state}
use Rattle.app_totals.proofs.Listings.{listing-sound, listing-changed, listing-without, listing-moved}

-- a create is meant otherwise than the other calls
abbrev pub is_create : Call → Bool
is_create (Create id flags attributes bytes) = true
is_create _ = false

-- where damage has no part in the one outcome, the other has its reply, and leaves the same names and sizes
pub record IsMeant (one other : Outcome) : Type 0 where
  pub reply : is_corrupt one.reply ≡ false → other.reply ≡ one.reply
  pub listed : is_corrupt one.reply ≡ false → listing other.next.objects ≡ listing one.next.objects

module _ (s : MachineState) (i : ℕ) where
  abbrev t : MachineState
  t = sound_state s

  same_names : listing t.objects ≡ listing s.objects
  same_names = listing-sound s.objects

  found : (name : ObjectName) → object_at t.objects name ≡ option_map sound_object (object_at s.objects name)
  found name = lookup-mapped sound_object (at name) s.objects

  IsMeant-refuse : (reply : Reply) → IsMeant (refuse s reply) (refuse t reply)
  IsMeant-refuse reply = record { reply = λ _. refl; listed = λ _. same_names }

  -- damage has the blame
  IsMeant-spoiled : (u : MachineState) (other : Outcome) → IsMeant (refuse u Corrupt) other
  IsMeant-spoiled u other = record { reply = λ good. absurd (true≢false good); listed = λ good. absurd (true≢false good) }

  IsMeant-cond : (b : Bool) (one one' other other' : Outcome) → IsMeant one other → IsMeant one' other' → IsMeant (cond b one one') (cond b other other')
  IsMeant-cond true one one' other other' p q = p
  IsMeant-cond false one one' other other' p q = q

  IsMeant-by_handle : (handle : Option Handle) (done done' : Handle → Outcome) → ((h : Handle) → IsMeant (done h) (done' h)) → IsMeant (by_handle s handle done) (by_handle t handle done')
  IsMeant-by_handle None done done' q = IsMeant-refuse (Misuse BadHandle)
  IsMeant-by_handle (Some h) done done' q = q h

  IsMeant-by_right : (right : ℕ) (handle : Option Handle) (done done' : Handle → Outcome) → ((h : Handle) → IsMeant (done h) (done' h)) → IsMeant (by_right s right handle done) (by_right t right handle done')
  IsMeant-by_right right None done done' q = IsMeant-refuse (Misuse BadHandle)
  IsMeant-by_right right (Some h) done done' q = IsMeant-cond (has h.flags right) (done h) (refuse s (Misuse NoRight)) (done' h) (refuse t (Misuse NoRight)) (q h) (IsMeant-refuse (Misuse NoRight))

  -- the contents as if no block were bad
  abbrev good : Contents → Contents
  good c = record c { bad = [] }

  IsMeant-of_sound : (name : ObjectName) (done done' : Contents → Outcome) → ((c : Contents) → IsMeant (done c) (done' (good c)))
      → IsMeant (of_sound s (object_at s.objects name) done) (of_sound t (object_at t.objects name) done')
  IsMeant-of_sound name done done' q = subst (λ o. IsMeant (of_sound s (object_at s.objects name) done) (of_sound t o done')) (sym (found name)) (one (object_at s.objects name))
    where
      one : (o : Option Object) → IsMeant (of_sound s o done) (of_sound t (option_map sound_object o) done')
      one None = IsMeant-refuse (Misuse BadHandle)
      one (Some (Damaged n)) = IsMeant-spoiled s (done' (record { attributes = []; bytes = replicate n 0; bad = [] }))
      one (Some (Sound c)) = q c

  -- rows of refusals of which the last is damage
  IsMeant-rows : (front : List (Bool × Reply)) (spoiled : Bool) (one other : Outcome) → IsMeant one other
      → IsMeant (unless_refused (front ++ (spoiled, Corrupt) ∷ []) s one) (unless_refused (front ++ (false, Corrupt) ∷ []) t other)
  IsMeant-rows [] true one other q = IsMeant-spoiled s other
  IsMeant-rows [] false one other q = q
  IsMeant-rows ((true, reply) ∷ front) spoiled one other q = IsMeant-refuse reply
  IsMeant-rows ((false, reply) ∷ front) spoiled one other q = IsMeant-rows front spoiled one other q

  meant-open : (id : List ℕ) (flags : Flags) → IsMeant (open_of s i id flags) (open_of t i id flags)
  unfolding open_of
  meant-open id flags =
      subst (λ (x : Bool × Bool). IsMeant (open_of s i id flags) (unless_refused (front x.0 ++ (x.1, Corrupt) ∷ []) t (open_handle t i name flags)))
      (λ k. (sym (same-holds s.objects t.objects same_names name) k, sym undamaged k))
      (IsMeant-rows (front (holds s.objects name)) (is_damaged (object_at s.objects name)) _ _ (record { reply = λ _. refl; listed = λ _. same_names }))
    where
      name : ObjectName
      name = name_in s i id

      front : Bool → List (Bool × Reply)
      front held =
          (not (is_known flags) || has flags overwrite_bit, Misuse BadFlags)
          ∷ (has_all_handles (session_at s i), Misuse TooMany)
          ∷ (not held, Refused ItemNotFound)
          ∷ (not (list_all (allows_open name flags) s.sessions), Refused AccessConflict)
          ∷ []

      undamaged : is_damaged (object_at t.objects name) ≡ false
      undamaged = ap is_damaged (found name) ∙ sound (object_at s.objects name)
        where
          sound : (o : Option Object) → is_damaged (option_map sound_object o) ≡ false
          sound None = refl
          sound (Some (Sound c)) = refl
          sound (Some (Damaged n)) = refl

  meant-read : (number size : ℕ) → IsMeant (read_of s i number size) (read_of t i number size)
  unfolding read_of
  meant-read number size =
      IsMeant-by_right read_bit (handle_at (session_at s i) number) _ _
      (λ h. IsMeant-of_sound h.name (read_from s i number size h) (read_from t i number size h)
      (λ c. IsMeant-rows [] (list_any (meets_block h.position (h.position + length (bytes_at c.bytes h.position size))) c.bad) _ _ (record { reply = λ _. refl; listed = λ _. same_names })))

  meant-info : (number : ℕ) → IsMeant (info_of s i number) (info_of t i number)
  unfolding info_of
  meant-info number =
      IsMeant-by_handle (handle_at (session_at s i) number) _ _
      (λ h. IsMeant-of_sound h.name _ _ (λ c. record { reply = λ _. refl; listed = λ _. same_names }))

  meant-write : (number : ℕ) (bytes : List ℕ) → IsMeant (write_of s i number bytes) (write_of t i number bytes)
  unfolding write_of
  meant-write number bytes =
      IsMeant-by_right write_bit (handle_at (session_at s i) number) _ _
      (λ h. IsMeant-cond (length bytes == 0) _ _ _ _ (record { reply = λ _. refl; listed = λ _. same_names })
      (IsMeant-of_sound h.name (write_from s i number bytes h) (write_from t i number bytes h)
      (λ c. IsMeant-rows
      ((nat_lt greatest_position (h.position + length bytes), Refused Overflow) ∷ (nat_lt most_data_bytes (h.position + length bytes), Refused NoSpace) ∷ [])
      (spoils c (range_written c h.position (length bytes))) _ _
      (record {
        reply = λ _. refl;
        listed = λ _. listing-changed s.objects t.objects same_names h.name (Sound (written_contents c h.position bytes)) (Sound (written_contents (good c) h.position bytes)) refl;
      }))))

  meant-truncate : (number size : ℕ) → IsMeant (truncate_of s i number size) (truncate_of t i number size)
  unfolding truncate_of
  meant-truncate number size =
      IsMeant-by_right write_bit (handle_at (session_at s i) number) _ _
      (λ h. IsMeant-of_sound h.name (truncate_from s size h) (truncate_from t size h)
      (λ c. IsMeant-rows ((nat_lt most_data_bytes size, Refused NoSpace) ∷ []) (spoils c (range_resized c size)) _ _
      (record {
        reply = λ _. refl;
        listed = λ _. listing-changed s.objects t.objects same_names h.name (Sound (resized_contents c size)) (Sound (resized_contents (good c) size)) refl;
      })))

  -- a call that looks into no object
  alike : (call : Call) → ((meant : Reply) → reads_file call meant ≡ false) → reply_of t i call ≡ reply_of s i call
  alike call never = (agree s t.objects i same_names call (λ name is. inr (never (reply_of s i call)))).reply

  -- so one that is no commit either
  quiet : (call : Call) → ((meant : Reply) → reads_file call meant ≡ false) → ((u : MachineState) → is_commit u i call (reply_of u i call) ≡ false) → IsMeant (outcome_of s i call) (outcome_of t i call)
  quiet call never none = record {
    reply = λ _. alike call never;
    listed = λ _. ap listing (others_keep_maps t i call (none t)) ∙ same_names ∙ sym (ap listing (others_keep_maps s i call (none s)));
  }

  meant-rename : (number : ℕ) (id : List ℕ) → IsMeant (outcome_of s i (Rename number id)) (outcome_of t i (Rename number id))
  meant-rename number id = record { reply = λ _. same; listed = λ _. one (is_commit s i call (reply_of s i call)) refl }
    where
      call : Call
      call = Rename number id

      same : reply_of t i call ≡ reply_of s i call
      same = alike call (λ meant. refl)

      one : (due : Bool) → is_commit s i call (reply_of s i call) ≡ due → listing (state_after t i call).objects ≡ listing (state_after s i call).objects
      one true is =
          let x = rename-left s i number id is in
          let y = rename-left t i number id (ap is_done same ∙ is) in
          let both : Some y.handle ≡ Some x.handle = sym y.live ∙ x.live in
          let handle : y.handle ≡ x.handle = cc (both) in
          ap listing y.leaves
          ∙ ap (λ (h : Handle). listing (moved_object t.objects h.name (name_in s i id))) handle
          ∙ listing-moved s.objects t.objects same_names x.handle.name (name_in s i id)
          ∙ sym (ap listing x.leaves)
      one false is = ap listing (others_keep_maps t i call (ap is_done same ∙ is)) ∙ same_names ∙ sym (ap listing (others_keep_maps s i call is))

  meant-delete : (number : ℕ) → IsMeant (outcome_of s i (Delete number)) (outcome_of t i (Delete number))
  meant-delete number = record { reply = λ _. same; listed = λ _. one (is_commit s i call (reply_of s i call)) refl }
    where
      call : Call
      call = Delete number

      same : reply_of t i call ≡ reply_of s i call
      same = alike call (λ meant. refl)

      one : (due : Bool) → is_commit s i call (reply_of s i call) ≡ due → listing (state_after t i call).objects ≡ listing (state_after s i call).objects
      one true is =
          let x = delete-left s i number is in
          let y = delete-left t i number (ap is_done same ∙ is) in
          let both : Some y.handle ≡ Some x.handle = sym y.live ∙ x.live in
          let handle : y.handle ≡ x.handle = cc (both) in
          ap listing y.leaves
          ∙ ap (λ (h : Handle). listing (without_object t.objects h.name)) handle
          ∙ listing-without s.objects t.objects same_names x.handle.name
          ∙ sym (ap listing x.leaves)
      one false is = ap listing (others_keep_maps t i call (ap is_done same ∙ is)) ∙ same_names ∙ sym (ap listing (others_keep_maps s i call is))

  -- A call other than a create.
  pub meant_outcome : (call : Call) → is_create call ≡ false → IsMeant (outcome_of s i call) (outcome_of t i call)
  meant_outcome (Create id flags attributes bytes) other = absurd (true≢false other)
  meant_outcome (Open id flags) other = meant-open id flags
  meant_outcome (Close number) other = quiet (Close number) (λ meant. refl) (λ u. refl)
  meant_outcome (Read number size) other = meant-read number size
  meant_outcome (Write number bytes) other = meant-write number bytes
  meant_outcome (Truncate number size) other = meant-truncate number size
  meant_outcome (Seek number offset whence) other = quiet (Seek number offset whence) (λ meant. refl) (λ u. refl)
  meant_outcome (Rename number id) other = meant-rename number id
  meant_outcome (Delete number) other = meant-delete number
  meant_outcome (Info number) other = meant-info number
  meant_outcome EnumNew other = quiet EnumNew (λ meant. refl) (λ u. refl)
  meant_outcome (EnumStart number) other = quiet (EnumStart number) (λ meant. refl) (λ u. refl)
  meant_outcome (EnumNext number) other = quiet (EnumNext number) (λ meant. refl) (λ u. refl)
  meant_outcome (EnumReset number) other = quiet (EnumReset number) (λ meant. refl) (λ u. refl)
  meant_outcome (EnumFree number) other = quiet (EnumFree number) (λ meant. refl) (λ u. refl)
