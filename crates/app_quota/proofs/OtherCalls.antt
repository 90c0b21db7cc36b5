-- A call of another application leaves an application's part of the state.
use Rattle.std.proofs.Common.{◌≡◌, ◌<◌, ◌==◌, ℕ, Bool, true, false, cond, not, List, [], ◌∷◌, length, map, refl, sym, ap, ◌∙◌, Option, Some, None, ◌+◌, slice_set, pos, ◌+ℤ◌, int_lt}
use Rattle.std.specs.List.{list_any}
use Rattle.std.specs.Ordering.{is_eq}
use Rattle.std.proofs.lemmas.List.{map-set, set-get_or, get_or-map}
use Rattle.tee_types.specs.Identifier.{bytes_cmp}
use Rattle.tee_types.specs.Rights.{has, read_bit, write_bit, write_meta_bit}
use Rattle.tee_types.specs.declared.call.Call.{Call}
use Rattle.tee_types.specs.declared.call.Call.TheVariants.{Create, Open, Close, Read, Write, Truncate, Seek, Rename, Delete, Info, EnumNew, EnumStart, EnumNext, EnumReset, EnumFree}
use Rattle.tee_types.specs.declared.reply.Reply.{Reply}
use Rattle.tee_types.specs.declared.reply.Reply.TheVariants.{Corrupt, Misuse, Refused}
use Rattle.tee_types.specs.declared.reply.Code.TheVariants.{AccessConflict, ItemNotFound, Overflow}
use Rattle.tee_types.specs.declared.reply.Reason.TheVariants.{TooMany}
use Rattle.enumerators.specs.declared.cursor.Cursor.{Cursor}
use Rattle.enumerators.specs.Enumeration.{cursor_at, has_all, reset}
use Rattle.store_model.specs.declared.session.Handle.{Handle}
use Rattle.store_model.specs.declared.name.ObjectName.{ObjectName}
use Rattle.store_model.specs.Object.{Object, Contents, Sound, Damaged, ObjectMap, object_at, size_at, holds, with_object, without_object, changed_object, moved_object}
use Rattle.store_model.specs.Machine.{MachineState, Session, Outcome, new_session, session_at, with_session, name_in, handle_at, unless_refused, first_refusal, refuse, by_handle, by_right, of_sound}
use Rattle.store_model.specs.Handles.{create_of, create_refusals, open_of, open_refusals, close_of}
use Rattle.store_model.specs.Data.{read_of, meets_block, bytes_at, write_of, write_refusals, truncate_of, truncate_refusals, resized_contents, seek_of, seek_base, info_of}
use Rattle.store_model.specs.Naming.{rename_of, delete_of}
use Rattle.store_model.specs.Enumerating.{enum_new_of, enum_start_of, enum_next_of, enum_reset_of, enum_free_of, by_cursor, enum_gives, is_of, with_enumerators}
use Rattle.store_model.specs.Calls.{outcome_of, state_after}
use Rattle.store_model.proofs.Maps.{at}
use Rattle.app_totals.specs.Totals.{objects_of}
use Rattle.app_totals.specs.OwnHandles.{HasOwnHandles, HaveOwnHandles}
use Rattle.app_quota.specs.Parts.{is_session_of, session_part, part_of}
use Rattle.app_quota.specs.Laws.{CallsOfOthersStayApart}
use Rattle.app_quota.proofs.MapParts.{own, own_alike, set-other, remove-other, insert-other}
use Rattle.app_totals.proofs.OwnHandles.{handle_has}
use Rattle.app_quota.proofs.PartSteps.{session_has}

module _ (app : List ℕ) (s : MachineState) (i : ℕ) (lt : i < length s.sessions) (handles : HaveOwnHandles s) (apart : is_session_of app (session_at s i) ≡ false) where
  abbrev me : Session
  me = session_at s i

  -- the outcome leaves the application's part
  record Keeps (outcome : Outcome) : Type 0 where
    pub is : part_of app outcome.next ≡ part_of app s

  unmoved : (reply : Reply) → Keeps (refuse s reply)
  unmoved reply = record { is = refl }

  blank : (x : Session) → x.application ≡ me.application → session_part app x ≡ new_session me.application
  blank x its = ap (λ b. elim b [ true ↦ x | false ↦ new_session x.application ]) (ap (λ a. is_eq (bytes_cmp app a)) its ∙ apart) ∙ ap new_session its

  -- another session is another one of its application, and the map has other objects of others
  kept : (b : ObjectMap) (y : Session) → objects_of app b ≡ objects_of app s.objects → y.application ≡ me.application → part_of app (record { objects = b; sessions = slice_set s.sessions i y }) ≡ part_of app s
  kept b y objects its k = record {
    objects = objects k;
    sessions = (
        map-set (session_part app) s.sessions i y
        ∙ ap (slice_set (map (session_part app) s.sessions) i) (blank y its ∙ sym (blank me refl) ∙ sym (get_or-map (session_part app) s.sessions i (new_session []) (new_session []) lt))
        ∙ set-get_or (map (session_part app) s.sessions) i (new_session []))
        k;
  }

  set_kept : (y : Session) → y.application ≡ me.application → part_of app (with_session s i y) ≡ part_of app s
  set_kept y its = kept s.objects y refl its

  Keeps-unless : (rows : List (Bool × Reply)) (u : MachineState) (done : Outcome) → part_of app u ≡ part_of app s → Keeps done → Keeps (unless_refused rows u done)
  Keeps-unless rows u done same h = elim (first_refusal rows) as (λ first. Keeps (elim first [ Some reply ↦ refuse u reply | None ↦ done ])) [
    | Some reply ↦ record { is = same }
    | None ↦ h
  ]

  Keeps-cond : (b : Bool) (one other : Outcome) → Keeps one → Keeps other → Keeps (cond b one other)
  Keeps-cond true one other p q = p
  Keeps-cond false one other p q = q

  Keeps-by_handle : (o : Option Handle) (done : Handle → Outcome) → ((h : Handle) → o ≡ Some h → Keeps (done h)) → Keeps (by_handle s o done)
  Keeps-by_handle None done q = record { is = refl }
  Keeps-by_handle (Some h) done q = q h refl

  Keeps-by_right : (right : ℕ) (o : Option Handle) (done : Handle → Outcome) → ((h : Handle) → o ≡ Some h → Keeps (done h)) → Keeps (by_right s right o done)
  Keeps-by_right right None done q = record { is = refl }
  Keeps-by_right right (Some h) done q = Keeps-cond (has h.flags right) _ _ (q h refl) (record { is = refl })

  Keeps-of_sound : (o : Option Object) (done : Contents → Outcome) → ((c : Contents) → Keeps (done c)) → Keeps (of_sound s o done)
  Keeps-of_sound None done q = record { is = refl }
  Keeps-of_sound (Some (Damaged n)) done q = record { is = refl }
  Keeps-of_sound (Some (Sound c)) done q = q c

  Keeps-by_cursor : (o : Option Cursor) (done : Cursor → Outcome) → ((c : Cursor) → Keeps (done c)) → Keeps (by_cursor s o done)
  Keeps-by_cursor None done q = record { is = refl }
  Keeps-by_cursor (Some c) done q = q c

  Keeps-gives : (number : ℕ) (next : Option (List ℕ × ℕ)) → Keeps (enum_gives s i number next)
  Keeps-gives number None = record { is = refl }
  Keeps-gives number (Some (id, size)) = record { is = set_kept _ refl }

  -- a handle of the session is on an object of another application
  theirs : (number : ℕ) (h : Handle) → handle_at me number ≡ Some h → own app h.name ≡ false
  theirs number h e =
      let its : h.name.app ≡ me.application = handle_has (λ h. h.name.app ≡ me.application) number me.handles h (session_has HasOwnHandles s.sessions i lt handles) e in
      ap (λ a. is_eq (bytes_cmp app a)) its ∙ apart

  not_own : (name : ObjectName) → own app name ≡ false → (n : ObjectName) → at name n ≡ true → own app n ≡ false
  not_own name other n hit = own_alike app name n false other hit

  changed_apart : (name : ObjectName) (x : Object) → own app name ≡ false → objects_of app (changed_object s.objects name x) ≡ objects_of app s.objects
  changed_apart name x other = set-other app (at name) (not_own name other) x s.objects

  moved_apart : (old new : ObjectName) → own app old ≡ false → own app new ≡ false → objects_of app (moved_object s.objects old new) ≡ objects_of app s.objects
  moved_apart old new other others = elim (object_at s.objects old) as (λ o. objects_of app (elim o [ Some object ↦ with_object (without_object s.objects old) new object | None ↦ s.objects ]) ≡ objects_of app s.objects) [
    | Some object ↦ insert-other app new object others (without_object s.objects old) ∙ remove-other app (at old) (not_own old other) s.objects
    | None ↦ refl
  ]

  keeps-outcome : (call : Call) → Keeps (outcome_of s i call)
  unfolding create_of open_of close_of read_of write_of truncate_of seek_of info_of rename_of delete_of enum_new_of enum_start_of enum_next_of enum_reset_of enum_free_of
  keeps-outcome (Create id flags attributes bytes) =
      Keeps-unless (create_refusals s i (name_in s i id) flags attributes bytes) s _ refl
      (record { is = kept _ _ (insert-other app (name_in s i id) (Sound (record { attributes = attributes; bytes = bytes; bad = [] })) apart s.objects) refl })
  keeps-outcome (Open id flags) = Keeps-unless (open_refusals s i (name_in s i id) flags) s _ refl (record { is = set_kept _ refl })
  keeps-outcome (Close number) = Keeps-by_handle (handle_at me number) _ (λ h e. record { is = set_kept _ refl })
  keeps-outcome (Read number size) =
      Keeps-by_right read_bit (handle_at me number) _
      (λ h e. Keeps-of_sound (object_at s.objects h.name) _ (λ c. Keeps-unless ((list_any (meets_block h.position (h.position + length (bytes_at c.bytes h.position size))) c.bad, Corrupt) ∷ []) s _ refl (record { is = set_kept _ refl })))
  keeps-outcome (Write number bytes) =
      Keeps-by_right write_bit (handle_at me number) _
      (λ h e. Keeps-cond (length bytes == 0) _ _ (record { is = refl }) (Keeps-of_sound (object_at s.objects h.name) _
      (λ c. Keeps-unless (write_refusals c h.position (length bytes)) s _ refl (record { is = kept _ _ (changed_apart h.name _ (theirs number h e)) refl }))))
  keeps-outcome (Truncate number size) =
      Keeps-by_right write_bit (handle_at me number) _
      (λ h e. Keeps-of_sound (object_at s.objects h.name) _
      (λ c. Keeps-unless (truncate_refusals c size) s _ refl (record { is = λ k. record { objects = changed_apart h.name (Sound (resized_contents c size)) (theirs number h e) k; sessions = map (session_part app) s.sessions } })))
  keeps-outcome (Seek number offset whence) =
      Keeps-by_handle (handle_at me number) _
      (λ h e. Keeps-unless ((int_lt (pos 4294967295) (pos (seek_base whence h.position (size_at s.objects h.name)) +ℤ offset), Refused Overflow) ∷ []) s _ refl (record { is = set_kept _ refl }))
  keeps-outcome (Rename number id) =
      Keeps-by_right write_meta_bit (handle_at me number) _
      (λ h e. Keeps-unless ((holds s.objects (name_in s i id), Refused AccessConflict) ∷ []) s _ refl (record { is = kept _ _ (moved_apart h.name (name_in s i id) (theirs number h e) apart) refl }))
  keeps-outcome (Delete number) =
      Keeps-by_right write_meta_bit (handle_at me number) _ (λ h e. record { is = kept _ _ (remove-other app (at h.name) (not_own h.name (theirs number h e)) s.objects) refl })
  keeps-outcome (Info number) = Keeps-by_handle (handle_at me number) _ (λ h e. Keeps-of_sound (object_at s.objects h.name) _ (λ c. record { is = refl }))
  keeps-outcome EnumNew = Keeps-unless ((has_all me.enumerators, Misuse TooMany) ∷ []) s _ refl (record { is = set_kept _ refl })
  keeps-outcome (EnumStart number) =
      Keeps-by_cursor (cursor_at me.enumerators number) _
      (λ c. Keeps-unless ((not (list_any (is_of me.application) s.objects), Refused ItemNotFound) ∷ []) (with_enumerators s i (reset me.enumerators number)) _ (set_kept _ refl) (record { is = set_kept _ refl }))
  keeps-outcome (EnumNext number) = Keeps-by_cursor (cursor_at me.enumerators number) _ (λ c. Keeps-gives number _)
  keeps-outcome (EnumReset number) = Keeps-by_cursor (cursor_at me.enumerators number) _ (λ c. record { is = set_kept _ refl })
  keeps-outcome (EnumFree number) = Keeps-by_cursor (cursor_at me.enumerators number) _ (λ c. record { is = set_kept _ refl })

  pub keeps_apart : (call : Call) → part_of app (state_after s i call) ≡ part_of app s
  keeps_apart call = (keeps-outcome call).is

-- the session is another one of its application, and the map has other objects of others
pub set_apart : (app : List ℕ) (s : MachineState) (i : ℕ) → i < length s.sessions → HaveOwnHandles s → is_session_of app (session_at s i) ≡ false → (b : ObjectMap) (y : Session) → objects_of app b ≡ objects_of app s.objects
    → y.application ≡ (session_at s i).application → part_of app (record { objects = b; sessions = slice_set s.sessions i y }) ≡ part_of app s
set_apart app s i lt handles apart b y objects its = kept app s i lt handles apart b y objects its

pub calls_of_others_stay_apart : CallsOfOthersStayApart
calls_of_others_stay_apart app s i call lt handles apart = keeps_apart app s i lt handles apart call
