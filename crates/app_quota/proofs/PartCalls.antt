-- Calls by handles and enumerators are answered by their application's part of the state alone.
use Rattle.std.proofs.Common.{◌≡◌, ◌<◌, ◌==◌, ℕ, Bool, true, false, not, ◌&&◌, List, [], ◌∷◌, length, refl, sym, ap, ◌∙◌, subst, Option, Some, None, ◌+◌, pos, ◌+ℤ◌, int_lt, ℤ}
use Rattle.std.specs.List.{list_any}
use Rattle.std.specs.Option.{option_map}
use Rattle.std.specs.Ordering.{is_eq}
use Rattle.std.proofs.lemmas.List.{get_or-map}
use Rattle.tee_types.specs.Identifier.{bytes_cmp}
use Rattle.tee_types.specs.Rights.{read_bit, write_bit, write_meta_bit}
use Rattle.tee_types.specs.declared.call.Whence.{Whence}
use Rattle.tee_types.specs.declared.reply.Reply.TheVariants.{Done, Handle as HandleReply, Misuse, Corrupt, Refused}
use Rattle.tee_types.specs.declared.reply.Code.TheVariants.{ItemNotFound, Overflow}
use Rattle.tee_types.specs.declared.reply.Reason.TheVariants.{TooMany}
use Rattle.enumerators.specs.declared.cursor.Cursor.{Cursor}
use Rattle.enumerators.specs.declared.cursor.Cursor.TheVariants.{Idle, First, After}
use Rattle.enumerators.specs.Enumeration.{cursor_at, has_all, reset, advanced, allocated, started, freed}
use Rattle.store_model.specs.declared.session.Handle.{Handle}
use Rattle.store_model.specs.declared.name.ObjectName.{ObjectName}
use Rattle.store_model.specs.Object.{Object, Sound, size_of, size_at, object_at, changed_object}
use Rattle.store_model.specs.Machine.{MachineState, Session, Outcome, new_session, session_at, name_in, handle_at, with_handle, without_handle, unless_refused}
use Rattle.store_model.specs.Handles.{close_of}
use Rattle.store_model.specs.Data.{read_of, bytes_at, meets_block, write_of, write_refusals, truncate_of, truncate_refusals, seek_of, seek_base, at_least_zero, with_position, written_contents, resized_contents, info_of}
use Rattle.store_model.specs.Naming.{delete_of}
use Rattle.store_model.specs.Enumerating.{enum_new_of, enum_start_of, enum_next_of, enum_reset_of, enum_free_of, enum_gives, is_of, is_above, shown, next_object, with_enumerators}
use Rattle.store_model.proofs.Maps.{at}
use Rattle.app_totals.specs.Totals.{objects_of}
use Rattle.app_totals.specs.OwnHandles.{HasOwnHandles, HaveOwnHandles}
use Rattle.app_quota.specs.Parts.{session_part, part_of}
use Rattle.app_totals.proofs.Names.{itself}
use Rattle.app_totals.proofs.OwnHandles.{handle_has}
use Rattle.app_quota.proofs.MapParts.{own, own_alike, lookup-part, set-part, remove-part, find-part, any-part}
use Rattle.app_quota.proofs.PartSteps.{session_has, stays, Stands, Stands-rows, Stands-unless, Stands-cond, Stands-by_handle, Stands-by_right, Stands-of_sound, Stands-by_cursor, set_both, set_own}

module _ (s : MachineState) (i : ℕ) (lt : i < length s.sessions) (handles : HaveOwnHandles s) where
  abbrev me : Session
  me = session_at s i

  abbrev app : List ℕ
  app = me.application

  abbrev t : MachineState
  t = part_of app s

  pub same : session_at t i ≡ me
  same = get_or-map (session_part app) s.sessions i (new_session []) (new_session []) lt ∙ stays s i me refl

  own_handles : HasOwnHandles me
  own_handles = session_has HasOwnHandles s.sessions i lt handles

  pub handle_own : (number : ℕ) (h : Handle) → handle_at me number ≡ Some h → h.name.app ≡ app
  handle_own number h e = handle_has (λ h. h.name.app ≡ app) number me.handles h own_handles e

  -- the object under a name of the application
  pub mine : (name : ObjectName) → name.app ≡ app → (n : ObjectName) → at name n ≡ true → own app n ≡ true
  mine name its n hit = own_alike app name n true (ap (λ a. is_eq (bytes_cmp app a)) its ∙ itself app) hit

  pub found : (name : ObjectName) → name.app ≡ app → object_at t.objects name ≡ object_at s.objects name
  found name its = lookup-part app (at name) (mine name its) s.objects

  pub handle_same : (number : ℕ) → handle_at (session_at t i) number ≡ handle_at me number
  handle_same number = ap (λ (x : Session). handle_at x number) same

  pub name_same : (id : List ℕ) → name_in t i id ≡ name_in s i id
  name_same id = ap (λ (x : Session). record { app = x.application; id = id }) same

  -- a position of a handle
  move : (number : ℕ) (h : Handle) (position : ℕ) → with_position t i number h position ≡ part_of app (with_position s i number h position)
  move number h position = set_own s i _ _ (ap (λ (x : Session). with_handle x number (record h { position = position })) same) refl

  pub alone-close : (number : ℕ) → Stands s i (close_of s i number) (close_of t i number)
  unfolding close_of
  alone-close number =
      Stands-by_handle s i (handle_at me number) (handle_at (session_at t i) number) _ _ (handle_same number)
      (λ h e. record { reply = refl; next = set_own s i _ _ (ap (λ (x : Session). without_handle x number) same) refl })

  pub alone-info : (number : ℕ) → Stands s i (info_of s i number) (info_of t i number)
  unfolding info_of
  alone-info number =
      Stands-by_handle s i (handle_at me number) (handle_at (session_at t i) number) _ _ (handle_same number)
      (λ h e. Stands-of_sound s i (object_at s.objects h.name) (object_at t.objects h.name) _ _ (found h.name (handle_own number h e)) (λ c. record { reply = refl; next = refl }))

  pub alone-read : (number size : ℕ) → Stands s i (read_of s i number size) (read_of t i number size)
  unfolding read_of
  alone-read number size =
      Stands-by_right s i read_bit (handle_at me number) (handle_at (session_at t i) number) _ _ (handle_same number)
      (λ h e. Stands-of_sound s i (object_at s.objects h.name) (object_at t.objects h.name) _ _ (found h.name (handle_own number h e))
      (λ c. Stands-rows s i ((list_any (meets_block h.position (h.position + length (bytes_at c.bytes h.position size))) c.bad, Corrupt) ∷ []) _ _
      (record { reply = refl; next = move number h (h.position + length (bytes_at c.bytes h.position size)) })))

  -- the contents of an object of the application
  change : (h : Handle) (x : Object) → h.name.app ≡ app → changed_object t.objects h.name x ≡ objects_of app (changed_object s.objects h.name x)
  change h x its = set-part app (at h.name) (mine h.name its) x s.objects

  pub alone-write : (number : ℕ) (bytes : List ℕ) → Stands s i (write_of s i number bytes) (write_of t i number bytes)
  unfolding write_of
  alone-write number bytes =
      Stands-by_right s i write_bit (handle_at me number) (handle_at (session_at t i) number) _ _ (handle_same number)
      (λ h e. Stands-cond s i (length bytes == 0) _ _ _ _ (record { reply = refl; next = refl })
      (Stands-of_sound s i (object_at s.objects h.name) (object_at t.objects h.name) _ _ (found h.name (handle_own number h e))
      (λ c. Stands-rows s i (write_refusals c h.position (length bytes)) _ _
      (record {
        reply = refl;
        next = set_both s i _ _ _ _ (change h (Sound (written_contents c h.position bytes)) (handle_own number h e)) (ap (λ (x : Session). with_handle x number (record h { position = h.position + length bytes })) same) refl;
      }))))

  pub alone-truncate : (number size : ℕ) → Stands s i (truncate_of s i number size) (truncate_of t i number size)
  unfolding truncate_of
  alone-truncate number size =
      Stands-by_right s i write_bit (handle_at me number) (handle_at (session_at t i) number) _ _ (handle_same number)
      (λ h e. Stands-of_sound s i (object_at s.objects h.name) (object_at t.objects h.name) _ _ (found h.name (handle_own number h e))
      (λ c. Stands-rows s i (truncate_refusals c size) _ _
      (record { reply = refl; next = λ k. record { objects = change h (Sound (resized_contents c size)) (handle_own number h e) k; sessions = t.sessions } })))

  pub alone-seek : (number : ℕ) (offset : ℤ) (whence : Whence) → Stands s i (seek_of s i number offset whence) (seek_of t i number offset whence)
  unfolding seek_of
  alone-seek number offset whence =
      Stands-by_handle s i (handle_at me number) (handle_at (session_at t i) number) _ _ (handle_same number)
      (λ h e. subst (λ size. Stands s i (done_s h) (done_t h size)) (sym (sized h e))
      (Stands-rows s i ((int_lt (pos 4294967295) (pos (seek_base whence h.position (size_at s.objects h.name)) +ℤ offset), Refused Overflow) ∷ []) _ _
      (record { reply = refl; next = move number h (at_least_zero (pos (seek_base whence h.position (size_at s.objects h.name)) +ℤ offset)) })))
    where
      sized : (h : Handle) → handle_at me number ≡ Some h → size_at t.objects h.name ≡ size_at s.objects h.name
      sized h e = ap (λ o. elim o [ Some object ↦ size_of object | None ↦ 0 ]) (found h.name (handle_own number h e))

      done_t : Handle → ℕ → Outcome
      done_t h size =
          unless_refused ((int_lt (pos 4294967295) (pos (seek_base whence h.position size) +ℤ offset), Refused Overflow) ∷ []) t
          (record { reply = Done; next = with_position t i number h (at_least_zero (pos (seek_base whence h.position size) +ℤ offset)) })

      done_s : Handle → Outcome
      done_s h =
          unless_refused ((int_lt (pos 4294967295) (pos (seek_base whence h.position (size_at s.objects h.name)) +ℤ offset), Refused Overflow) ∷ []) s
          (record { reply = Done; next = with_position s i number h (at_least_zero (pos (seek_base whence h.position (size_at s.objects h.name)) +ℤ offset)) })

  pub alone-delete : (number : ℕ) → Stands s i (delete_of s i number) (delete_of t i number)
  unfolding delete_of
  alone-delete number =
      Stands-by_right s i write_meta_bit (handle_at me number) (handle_at (session_at t i) number) _ _ (handle_same number)
      (λ h e. record {
        reply = refl;
        next = set_both s i _ _ _ _ (remove-part app (at h.name) (mine h.name (handle_own number h e)) s.objects) (ap (λ (x : Session). without_handle x number) same) refl;
      })

  pub alone-enum_new : Stands s i (enum_new_of s i) (enum_new_of t i)
  unfolding enum_new_of
  alone-enum_new =
      Stands-unless s i ((has_all me.enumerators, Misuse TooMany) ∷ []) ((has_all (session_at t i).enumerators, Misuse TooMany) ∷ []) _ _
      (ap (λ (x : Session). (has_all x.enumerators, Misuse TooMany) ∷ []) same)
      (record {
        reply = ap (λ (x : Session). HandleReply x.enumerators.next) same;
        next = set_own s i _ _ (ap (λ (x : Session). record x { enumerators = allocated x.enumerators }) same) refl;
      })

  cursor_same : (number : ℕ) → cursor_at (session_at t i).enumerators number ≡ cursor_at me.enumerators number
  cursor_same number = ap (λ (x : Session). cursor_at x.enumerators number) same

  pub alone-enum_reset : (number : ℕ) → Stands s i (enum_reset_of s i number) (enum_reset_of t i number)
  unfolding enum_reset_of
  alone-enum_reset number =
      Stands-by_cursor s i (cursor_at me.enumerators number) (cursor_at (session_at t i).enumerators number) _ _ (cursor_same number)
      (λ c. record { reply = refl; next = set_own s i _ _ (ap (λ (x : Session). record x { enumerators = reset x.enumerators number }) same) refl })

  pub alone-enum_free : (number : ℕ) → Stands s i (enum_free_of s i number) (enum_free_of t i number)
  unfolding enum_free_of
  alone-enum_free number =
      Stands-by_cursor s i (cursor_at me.enumerators number) (cursor_at (session_at t i).enumerators number) _ _ (cursor_same number)
      (λ c. record { reply = refl; next = set_own s i _ _ (ap (λ (x : Session). record x { enumerators = freed x.enumerators number }) same) refl })

  any_same : list_any (is_of (session_at t i).application) t.objects ≡ list_any (is_of app) s.objects
  any_same = ap (λ (x : Session). list_any (is_of x.application) t.objects) same ∙ any-part app (is_of app) (λ e hit. hit) s.objects

  pub alone-enum_start : (number : ℕ) → Stands s i (enum_start_of s i number) (enum_start_of t i number)
  unfolding enum_start_of
  alone-enum_start number =
      Stands-by_cursor s i (cursor_at me.enumerators number) (cursor_at (session_at t i).enumerators number) _ _ (cursor_same number)
      (λ c. subst (λ b. Stands s i (out_s (list_any (is_of app) s.objects)) (out_t b)) (sym any_same) (both (list_any (is_of app) s.objects)))
    where
      left : with_enumerators t i (reset (session_at t i).enumerators number) ≡ part_of app (with_enumerators s i (reset me.enumerators number))
      left = set_own s i _ _ (ap (λ (x : Session). record x { enumerators = reset x.enumerators number }) same) refl

      begun : with_enumerators t i (started (session_at t i).enumerators number) ≡ part_of app (with_enumerators s i (started me.enumerators number))
      begun = set_own s i _ _ (ap (λ (x : Session). record x { enumerators = started x.enumerators number }) same) refl

      out_s : Bool → Outcome
      out_s b = unless_refused ((not b, Refused ItemNotFound) ∷ []) (with_enumerators s i (reset me.enumerators number)) (record { reply = Done; next = with_enumerators s i (started me.enumerators number) })

      out_t : Bool → Outcome
      out_t b = unless_refused ((not b, Refused ItemNotFound) ∷ []) (with_enumerators t i (reset (session_at t i).enumerators number)) (record { reply = Done; next = with_enumerators t i (started (session_at t i).enumerators number) })

      both : (b : Bool) → Stands s i (out_s b) (out_t b)
      both true = record { reply = refl; next = begun }
      both false = record { reply = refl; next = left }

  next_same : (cursor : Cursor) → next_object t.objects (session_at t i).application cursor ≡ next_object s.objects app cursor
  next_same cursor = ap (λ (x : Session). next_object t.objects x.application cursor) same ∙ one cursor
    where
      and_first : (a b : Bool) → (a && b) ≡ true → a ≡ true
      and_first true b h = refl
      and_first false b h = h

      one : (cursor : Cursor) → next_object t.objects app cursor ≡ next_object s.objects app cursor
      one Idle = refl
      one First = find-part app (is_of app) (λ e hit. hit) s.objects
      one (After id) = find-part app (is_above app id) (λ e hit. and_first _ _ hit) s.objects

  pub alone-gives : (number : ℕ) (next : Option (List ℕ × ℕ)) → Stands s i (enum_gives s i number next) (enum_gives t i number next)
  alone-gives number None = record { reply = refl; next = refl }
  alone-gives number (Some (id, size)) = record { reply = refl; next = set_own s i _ _ (ap (λ (x : Session). record x { enumerators = advanced x.enumerators number id }) same) refl }

  pub alone-enum_next : (number : ℕ) → Stands s i (enum_next_of s i number) (enum_next_of t i number)
  unfolding enum_next_of
  alone-enum_next number =
      Stands-by_cursor s i (cursor_at me.enumerators number) (cursor_at (session_at t i).enumerators number) _ _ (cursor_same number)
      (λ c. subst (λ o. Stands s i (enum_gives s i number (option_map shown (next_object s.objects app c))) (enum_gives t i number (option_map shown o))) (sym (next_same c))
      (alone-gives number (option_map shown (next_object s.objects app c))))
