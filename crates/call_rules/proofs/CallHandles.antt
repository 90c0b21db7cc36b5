-- Each call of the machine leaves its handles well opened.
use Rattle.std.proofs.Common.{◌≡◌, ◌≢◌, ◌==◌, ◌+◌, ℕ, zero, suc, Bool, true, false, true≢false, cond, not, ◌&&◌, ◌||◌, List, [], ◌∷◌, length, slice_index_or, Option, Some, None, is_some, refl, sym, ap, ◌∙◌, pos, ◌+ℤ◌, int_lt}
use Rattle.std.specs.List.{list_all, list_any}
use Rattle.std.specs.Ordering.{is_eq}
use Rattle.std.proofs.lemmas.Bool.{and_parts}
use Rattle.std.proofs.lemmas.Cmp.{tied_itself}
use Rattle.std.proofs.lemmas.List.Folds.{list_any_at}
use Rattle.enumerators.specs.declared.cursor.Cursor.{Cursor}
use Rattle.enumerators.specs.Enumeration.{advanced, allocated, cursor_at, freed, has_all, reset, started}
use Rattle.tee_types.specs.declared.call.Call.{Call}
use Rattle.tee_types.specs.declared.call.Call.TheVariants.{Create, Open, Close, Read, Write, Truncate, Seek, Rename, Delete, Info, EnumNew, EnumStart, EnumNext, EnumReset, EnumFree}
use Rattle.tee_types.specs.declared.flags.Flags.{Flags}
use Rattle.tee_types.specs.declared.reply.Reply.{Reply}
use Rattle.tee_types.specs.declared.reply.Reply.TheVariants.{Misuse, Corrupt, Refused}
use Rattle.tee_types.specs.declared.reply.Code.TheVariants.{ItemNotFound, Overflow, AccessConflict}
use Rattle.tee_types.specs.declared.reply.Reason.TheVariants.{NoRight, TooMany}
use Rattle.tee_types.specs.Rights.{are_compatible, has, read_bit, without_overwrite, write_bit, write_meta_bit}
use Rattle.store_model.specs.declared.name.ObjectName.{ObjectName}
use Rattle.store_model.specs.declared.session.Handle.{Handle}
use Rattle.store_model.specs.Name.{name_eq}
use Rattle.store_model.specs.Object.{Contents, Damaged, Object, Sound, changed_object, holds, is_damaged, object_at, size_at, with_object}
use Rattle.store_model.specs.Machine.{MachineState, Outcome, Session, by_handle, by_right, first_refusal, handle_at, name_in, new_session, of_sound, refuse, session_at, unless_refused}
use Rattle.store_model.specs.Handles.{allows_open, close_of, create_of, create_refusals, has_open, open_handle, open_of, open_refusals}
use Rattle.store_model.specs.Data.{bytes_at, info_of, meets_block, read_of, resized_contents, seek_base, seek_of, truncate_of, truncate_refusals, with_contents, with_position, write_of, write_refusals, written_contents}
use Rattle.store_model.specs.Naming.{delete_of, rename_of}
use Rattle.store_model.specs.Enumerating.{by_cursor, enum_free_of, enum_gives, enum_new_of, enum_next_of, enum_reset_of, enum_start_of, is_of, with_enumerators}
use Rattle.store_model.specs.Calls.{state_after}
use Rattle.store_model.proofs.Maps.{name_cmp_total}
use Rattle.core_laws.proofs.Names.{name_test}
use Rattle.call_rules.specs.WellOpened.{IsSoundAt, WellOpened}
use Rattle.call_rules.proofs.EntryLists.{all-at, any-at}
use Rattle.call_rules.proofs.SessionLists.{live-within}
use Rattle.call_rules.proofs.QuietSteps.{quiet-close, quiet-enumerators, quiet-position, quiet_objects}
use Rattle.call_rules.proofs.NewHandles.{keeps_sound-changed, keeps_sound-with, sound-put, well_opened-open}
use Rattle.call_rules.proofs.AloneHandles.{well_opened-delete, well_opened-rename}

-- no row refuses
abbrev pub AllOff : List (Bool × Reply) → Type 0
AllOff [] = Unit {0}
AllOff (row ∷ rows) = (row.0 ≡ false) × AllOff rows

pub all-off : (rows : List (Bool × Reply)) → first_refusal rows ≡ None → AllOff rows
all-off [] none = tt
all-off ((true, reply) ∷ rows) none = absurd (cc (none))
all-off ((false, reply) ∷ rows) none = (refl, all-off rows none)

pub name_eq-itself : (name : ObjectName) → name_eq name name ≡ true
name_eq-itself name = sym (name_test name name) ∙ ap is_eq (tied_itself name_cmp_total name)

not-off : (b : Bool) → not b ≡ false → b ≡ true
not-off true off = refl
not-off false off = absurd (true≢false off)

-- a test that each session passes
all-session : (p : Session → Bool) (sessions : List Session) (j : ℕ) (d : Session) → list_all p sessions ≡ true → p d ≡ true → p (slice_index_or sessions j d) ≡ true
all-session p [] j d all own = own
all-session p (x ∷ sessions) zero d all own = (and_parts (p x) (list_all p sessions) all).0
all-session p (x ∷ sessions) (suc j) d all own = all-session p sessions j d (and_parts (p x) (list_all p sessions) all).1 own

module _ (s : MachineState) where
  -- the handle stands in the way of one that is new on its object
  pub live-any : (name : ObjectName) (j other : ℕ) (g : Handle) → handle_at (session_at s j) other ≡ Some g → g.name ≡ name → list_any (has_open name) s.sessions ≡ true
  live-any name j other g live same =
      let own : has_open name (session_at s j) ≡ true =
      any-at (λ (h : Handle). name_eq name h.name) (session_at s j).handles other g live (ap (name_eq name) same ∙ name_eq-itself name) in
      list_any_at (has_open name) s.sessions j (new_session []) (live-within s.sessions j other g live) own

  pub live-allows : (name : ObjectName) (flags : Flags) (j other : ℕ) (g : Handle) → list_all (allows_open name flags) s.sessions ≡ true
      → handle_at (session_at s j) other ≡ Some g → g.name ≡ name → are_compatible flags g.flags ≡ true
  live-allows name flags j other g all live same =
      let own : allows_open name flags (session_at s j) ≡ true = all-session (allows_open name flags) s.sessions j (new_session []) all refl in
      let one : (not (name_eq name g.name) || are_compatible flags g.flags) ≡ true =
      all-at (λ (h : Handle). not (name_eq name h.name) || are_compatible flags h.flags) (session_at s j).handles other g own live in
      sym (ap (λ (b : Bool). not b || are_compatible flags g.flags) (ap (name_eq name) same ∙ name_eq-itself name)) ∙ one

  -- an object that is there and not damaged is sound
  sound-here : (name : ObjectName) (o : Option Object) → object_at s.objects name ≡ o → is_some o ≡ true → is_damaged o ≡ false → IsSoundAt s.objects name
  sound-here name None is there fine = absurd (true≢false (sym there))
  sound-here name (Some (Sound c)) is there fine = record { contents = c; is = is }
  sound-here name (Some (Damaged n)) is there fine = absurd (true≢false fine)

module _ (s : MachineState) (well : WellOpened s) where
  abbrev Fine : Outcome → Type 0
  Fine outcome = WellOpened outcome.next

  fine-unless : (rows : List (Bool × Reply)) (t : MachineState) (done : Outcome) → WellOpened t → (first_refusal rows ≡ None → Fine done) → Fine (unless_refused rows t done)
  fine-unless rows t done here h = (elim (first_refusal rows) as (λ first. first_refusal rows ≡ first → Fine (elim first [ Some reply ↦ refuse t reply | None ↦ done ])) [
    | Some reply ↦ λ _. here
    | None ↦ h
  ]) refl

  fine-cond : (b : Bool) (one other : Outcome) → (b ≡ true → Fine one) → (b ≡ false → Fine other) → Fine (cond b one other)
  fine-cond true one other p q = p refl
  fine-cond false one other p q = q refl

  fine-handle : (handle : Option Handle) (done : Handle → Outcome) → ((h : Handle) → handle ≡ Some h → Fine (done h)) → Fine (by_handle s handle done)
  fine-handle None done q = well
  fine-handle (Some h) done q = q h refl

  fine-right : (right : ℕ) (handle : Option Handle) (done : Handle → Outcome) → ((h : Handle) → handle ≡ Some h → has h.flags right ≡ true → Fine (done h)) → Fine (by_right s right handle done)
  fine-right right None done q = well
  fine-right right (Some h) done q = fine-cond (has h.flags right) (done h) (refuse s (Misuse NoRight)) (q h refl) (λ _. well)

  fine-sound : (object : Option Object) (done : Contents → Outcome) → ((c : Contents) → object ≡ Some (Sound c) → Fine (done c)) → Fine (of_sound s object done)
  fine-sound None done q = well
  fine-sound (Some (Damaged n)) done q = well
  fine-sound (Some (Sound c)) done q = q c refl

  fine-cursor : (cursor : Option Cursor) (done : Cursor → Outcome) → ((c : Cursor) → Fine (done c)) → Fine (by_cursor s cursor done)
  fine-cursor None done q = well
  fine-cursor (Some c) done q = q c

  fine-gives : (i number : ℕ) (next : Option (List ℕ × ℕ)) → Fine (enum_gives s i number next)
  fine-gives i number None = well
  fine-gives i number (Some (id, size)) = quiet-enumerators s well i (advanced (session_at s i).enumerators number id)

  -- no handle is open on the object that a create makes or replaces
  pub create-alone : (i : ℕ) (id : List ℕ) (flags : Flags) (attributes bytes : List ℕ) → first_refusal (create_refusals s i (name_in s i id) flags attributes bytes) ≡ None
      → (j other : ℕ) (g : Handle) → handle_at (session_at s j) other ≡ Some g → g.name ≢ name_in s i id
  create-alone i id flags attributes bytes none j other g live same =
      let name : ObjectName = name_in s i id in
      let rows = all-off (create_refusals s i name flags attributes bytes) none in
      let found : IsSoundAt s.objects g.name = well.sound j other g live in
      let held : holds s.objects name ≡ true = ap (holds s.objects) (sym same) ∙ ap is_some found.is in
      true≢false ((λ k. sym held k && sym (live-any s name j other g live same) k) ∙ rows.1.1.1.1.0)

  fine-create : (i : ℕ) (id : List ℕ) (flags : Flags) (attributes bytes : List ℕ) → Fine (create_of s i id flags attributes bytes)
  unfolding create_of
  fine-create i id flags attributes bytes =
      let name : ObjectName = name_in s i id in
      let c : Contents = record { attributes = attributes; bytes = bytes; bad = [] } in
      fine-unless (create_refusals s i name flags attributes bytes) s (open_handle (record s { objects = with_object s.objects name (Sound c) }) i name (without_overwrite flags)) well
      (λ none.
      well_opened-open s well (with_object s.objects name (Sound c)) i name (without_overwrite flags) (keeps_sound-with s.objects name c) (sound-put s.objects name c)
      (λ j other g live same. absurd (create-alone i id flags attributes bytes none j other g live same)))

  fine-open : (i : ℕ) (id : List ℕ) (flags : Flags) → Fine (open_of s i id flags)
  unfolding open_of
  fine-open i id flags =
      let name : ObjectName = name_in s i id in
      fine-unless (open_refusals s i name flags) s _ well
      (λ none.
      let rows = all-off (open_refusals s i name flags) none in
      well_opened-open s well s.objects i name flags (λ q sound. sound)
      (sound-here s name (object_at s.objects name) refl (not-off (holds s.objects name) rows.1.1.0) rows.1.1.1.1.0)
      (λ j other g live same. live-allows s name flags j other g (not-off (list_all (allows_open name flags) s.sessions) rows.1.1.1.0) live same))

  fine-data : (i number : ℕ) (h : Handle) (c c' : Contents) (position : ℕ) → handle_at (session_at s i) number ≡ Some h → object_at s.objects h.name ≡ Some (Sound c)
      → WellOpened (with_position (with_contents s h c') i number h position)
  fine-data i number h c c' position live found =
      quiet-position s well (changed_object s.objects h.name (Sound c')) i number h position live (keeps_sound-changed s.objects h.name c' (record { contents = c; is = found }))

  pub well_opened-after : (i : ℕ) (call : Call) → WellOpened (state_after s i call)
  unfolding close_of read_of write_of truncate_of seek_of info_of rename_of delete_of enum_new_of enum_start_of enum_next_of enum_reset_of enum_free_of
  well_opened-after i (Create id flags attributes bytes) = fine-create i id flags attributes bytes
  well_opened-after i (Open id flags) = fine-open i id flags
  well_opened-after i (Close number) = fine-handle (handle_at (session_at s i) number) _ (λ h live. quiet-close s well i number)
  well_opened-after i (Read number size) =
      fine-right read_bit (handle_at (session_at s i) number) _
      (λ h live right. fine-sound (object_at s.objects h.name) _
      (λ c found. fine-unless ((list_any (meets_block h.position (h.position + length (bytes_at c.bytes h.position size))) c.bad, Corrupt) ∷ []) s _ well
      (λ _. quiet-position s well s.objects i number h (h.position + length (bytes_at c.bytes h.position size)) live (λ q sound. sound))))
  well_opened-after i (Write number bytes) =
      fine-right write_bit (handle_at (session_at s i) number) _
      (λ h live right. fine-cond (length bytes == 0) _ _ (λ _. well)
      (λ _. fine-sound (object_at s.objects h.name) _
      (λ c found. fine-unless (write_refusals c h.position (length bytes)) s _ well
      (λ _. fine-data i number h c (written_contents c h.position bytes) (h.position + length bytes) live found))))
  well_opened-after i (Truncate number size) =
      fine-right write_bit (handle_at (session_at s i) number) _
      (λ h live right. fine-sound (object_at s.objects h.name) _
      (λ c found. fine-unless (truncate_refusals c size) s _ well
      (λ _. quiet_objects s (changed_object s.objects h.name (Sound (resized_contents c size))) well
      (keeps_sound-changed s.objects h.name (resized_contents c size) (record { contents = c; is = found })))))
  well_opened-after i (Seek number offset whence) =
      fine-handle (handle_at (session_at s i) number) _
      (λ h live. fine-unless ((int_lt (pos 4294967295) (pos (seek_base whence h.position (size_at s.objects h.name)) +ℤ offset), Refused Overflow) ∷ []) s _ well
      (λ _. quiet-position s well s.objects i number h _ live (λ q sound. sound)))
  well_opened-after i (Rename number id) =
      fine-right write_meta_bit (handle_at (session_at s i) number) _
      (λ h live right. fine-unless ((holds s.objects (name_in s i id), Refused AccessConflict) ∷ []) s _ well
      (λ none. well_opened-rename s well i number h live right (name_in s i id) (all-off ((holds s.objects (name_in s i id), Refused AccessConflict) ∷ []) none).0))
  well_opened-after i (Delete number) =
      fine-right write_meta_bit (handle_at (session_at s i) number) _ (λ h live right. well_opened-delete s well i number h live right)
  well_opened-after i (Info number) =
      fine-handle (handle_at (session_at s i) number) _ (λ h live. fine-sound (object_at s.objects h.name) _ (λ c found. well))
  well_opened-after i EnumNew =
      fine-unless ((has_all (session_at s i).enumerators, Misuse TooMany) ∷ []) s _ well (λ _. quiet-enumerators s well i (allocated (session_at s i).enumerators))
  well_opened-after i (EnumStart number) =
      fine-cursor (cursor_at (session_at s i).enumerators number) _
      (λ cursor. fine-unless ((not (list_any (is_of (session_at s i).application) s.objects), Refused ItemNotFound) ∷ []) (with_enumerators s i (reset (session_at s i).enumerators number)) _
      (quiet-enumerators s well i (reset (session_at s i).enumerators number)) (λ _. quiet-enumerators s well i (started (session_at s i).enumerators number)))
  well_opened-after i (EnumNext number) = fine-cursor (cursor_at (session_at s i).enumerators number) _ (λ cursor. fine-gives i number _)
  well_opened-after i (EnumReset number) =
      fine-cursor (cursor_at (session_at s i).enumerators number) _ (λ cursor. quiet-enumerators s well i (reset (session_at s i).enumerators number))
  well_opened-after i (EnumFree number) =
      fine-cursor (cursor_at (session_at s i).enumerators number) _ (λ cursor. quiet-enumerators s well i (freed (session_at s i).enumerators number))
