-- The table keeps the open handles at a call that is answered as the machine does, and is no commit.
use Rattle.std.proofs.Common.{◌≡◌, ◌==◌, ◌<◌, ◌+◌, ℕ, Bool, true, false, true≢false, cond, not, List, [], ◌∷◌, length, Option, Some, None, refl, subst, pos, ◌+ℤ◌, int_lt}
use Rattle.std.specs.List.{list_any}
use Rattle.enumerators.specs.declared.cursor.Cursor.{Cursor}
use Rattle.enumerators.specs.Enumeration.{advanced, allocated, cursor_at, freed, has_all, reset, started}
use Rattle.tee_types.specs.declared.call.Call.{Call}
use Rattle.tee_types.specs.declared.call.Call.TheVariants.{Create, Open, Close, Read, Write, Truncate, Seek, Rename, Delete, Info, EnumNew, EnumStart, EnumNext, EnumReset, EnumFree}
use Rattle.tee_types.specs.declared.flags.Flags.{Flags}
use Rattle.tee_types.specs.declared.reply.Reply.{Reply}
use Rattle.tee_types.specs.declared.reply.Reply.TheVariants.{Misuse, Corrupt, Refused}
use Rattle.tee_types.specs.declared.reply.Code.TheVariants.{ItemNotFound, Overflow, AccessConflict}
use Rattle.tee_types.specs.declared.reply.Reason.TheVariants.{BadHandle, BadEnumerator, NoRight, TooMany}
use Rattle.tee_types.specs.Rights.{has, read_bit, write_bit, write_meta_bit}
use Rattle.dir_records.specs.declared.entry.DirEntry.{DirEntry}
use Rattle.open_table.specs.Table.{TableState}
use Rattle.store_model.specs.declared.name.ObjectName.{ObjectName}
use Rattle.store_model.specs.declared.session.Handle.{Handle}
use Rattle.store_model.specs.Object.{Contents, Damaged, Object, Sound, holds, object_at, size_at}
use Rattle.store_model.specs.Machine.{MachineState, Outcome, by_handle, by_right, first_refusal, handle_at, name_in, of_sound, refuse, session_at, unless_refused}
use Rattle.store_model.specs.Handles.{close_of, create_of, create_refusals, open_of, open_refusals}
use Rattle.store_model.specs.Data.{bytes_at, info_of, meets_block, read_of, seek_base, seek_of, truncate_of, truncate_refusals, write_of, write_refusals}
use Rattle.store_model.specs.Naming.{delete_of, rename_of}
use Rattle.store_model.specs.Enumerating.{by_cursor, enum_free_of, enum_gives, enum_new_of, enum_next_of, enum_reset_of, enum_start_of, is_of, with_enumerators}
use Rattle.store_model.specs.Calls.{is_commit, is_done, is_handle, outcome_of}
use Rattle.open_table.specs.HandleChanges.{AddsHandle, NotesReply}
use Rattle.call_rules.specs.OpenHandles.{AreOpen}
use Rattle.call_rules.specs.OpenLaws.{IsOpenedFile}
use Rattle.call_rules.proofs.CallHandles.{all-off}
use Rattle.call_rules.proofs.DroppedHandles.{open-dropped}
use Rattle.call_rules.proofs.OpenCalls.{keeps-itself, quiet-notes, same-enumerators, same-position, same-records}
use Rattle.call_rules.proofs.OpenSteps.{open-added}
use Rattle.call_rules.proofs.Rights.{without_overwrite-same}

-- none of these replies gives a handle, or is Done
abbrev NoNotes : List (Bool × Reply) → Type 0
NoNotes [] = Unit {0}
NoNotes (row ∷ rows) = (is_handle row.1 ≡ false) × (is_done row.1 ≡ false) × NoNotes rows

module _ (entries : List (Option DirEntry)) (old new : TableState) (s : MachineState) (i file : ℕ) (are_open : AreOpen entries old s.sessions) (within : i < length s.sessions) where
  module _ (call : Call) (commit : Reply → Bool) where
    -- the outcome, where it is no commit, leaves the handles that the table then has
    abbrev Linked : Outcome → Type 0
    Linked outcome = commit outcome.reply ≡ false → IsOpenedFile entries s i call outcome.reply file → NotesReply old new file i call outcome.reply → AreOpen entries new (outcome.next).sessions

    linked-refuse : (reply : Reply) → is_handle reply ≡ false → is_done reply ≡ false → Linked (refuse s reply)
    linked-refuse reply given done quiet opened notes = same-records entries old new s i are_open within (quiet-notes old new file i call reply given done notes)

    linked-unless : (rows : List (Bool × Reply)) (done : Outcome) → NoNotes rows → (first_refusal rows ≡ None → Linked done) → Linked (unless_refused rows s done)
    linked-unless [] done none q = q refl
    linked-unless ((true, reply) ∷ rows) done none q = linked-refuse reply none.0 none.1
    linked-unless ((false, reply) ∷ rows) done none q = linked-unless rows done none.2 q

    linked-either : (rows : List (Bool × Reply)) (t : MachineState) (done : Outcome) → ((reply : Reply) → Linked (refuse t reply)) → Linked done → Linked (unless_refused rows t done)
    linked-either rows t done refused q = elim (first_refusal rows) as (λ first. Linked (elim first [ Some reply ↦ refuse t reply | None ↦ done ])) [
      | Some reply ↦ refused reply
      | None ↦ q
    ]

    linked-cond : (b : Bool) (one other : Outcome) → Linked one → Linked other → Linked (cond b one other)
    linked-cond true one other p q = p
    linked-cond false one other p q = q

    linked-handle : (handle : Option Handle) (done : Handle → Outcome) → ((h : Handle) → handle ≡ Some h → Linked (done h)) → Linked (by_handle s handle done)
    linked-handle None done q = linked-refuse (Misuse BadHandle) refl refl
    linked-handle (Some h) done q = q h refl

    linked-right : (right : ℕ) (handle : Option Handle) (done : Handle → Outcome) → ((h : Handle) → handle ≡ Some h → Linked (done h)) → Linked (by_right s right handle done)
    linked-right right None done q = linked-refuse (Misuse BadHandle) refl refl
    linked-right right (Some h) done q = linked-cond (has h.flags right) (done h) (refuse s (Misuse NoRight)) (q h refl) (linked-refuse (Misuse NoRight) refl refl)

    linked-sound : (object : Option Object) (done : Contents → Outcome) → ((c : Contents) → Linked (done c)) → Linked (of_sound s object done)
    linked-sound None done q = linked-refuse (Misuse BadHandle) refl refl
    linked-sound (Some (Damaged n)) done q = linked-refuse Corrupt refl refl
    linked-sound (Some (Sound c)) done q = q c

    linked-cursor : (cursor : Option Cursor) (done : Cursor → Outcome) → ((c : Cursor) → Linked (done c)) → Linked (by_cursor s cursor done)
    linked-cursor None done q = linked-refuse (Misuse BadEnumerator) refl refl
    linked-cursor (Some c) done q = q c

  pub linked-write : (commit : Reply → Bool) (number : ℕ) (bytes : List ℕ) → Linked (Write number bytes) commit (write_of s i number bytes)
  unfolding write_of
  linked-write commit number bytes =
      linked-right (Write number bytes) commit write_bit (handle_at (session_at s i) number) _
      (λ h live. linked-cond (Write number bytes) commit (length bytes == 0) _ _ (λ _ _ same. same-records entries old new s i are_open within same)
      (linked-sound (Write number bytes) commit (object_at s.objects h.name) _
      (λ c. linked-either (Write number bytes) commit (write_refusals c h.position (length bytes)) s _ (λ reply _ _ same. same-records entries old new s i are_open within same)
      (λ _ _ same. same-position entries old new s i are_open within number h (h.position + length bytes) live same))))

  pub linked-truncate : (commit : Reply → Bool) (number size : ℕ) → Linked (Truncate number size) commit (truncate_of s i number size)
  unfolding truncate_of
  linked-truncate commit number size =
      linked-right (Truncate number size) commit write_bit (handle_at (session_at s i) number) _
      (λ h live. linked-sound (Truncate number size) commit (object_at s.objects h.name) _
      (λ c. linked-either (Truncate number size) commit (truncate_refusals c size) s _ (λ reply _ _ same. same-records entries old new s i are_open within same)
      (λ _ _ same. same-records entries old new s i are_open within same)))

  linked-open : (commit : Reply → Bool) (id : List ℕ) (flags : Flags) → Linked (Open id flags) commit (open_of s i id flags)
  unfolding open_of
  linked-open commit id flags =
      let name : ObjectName = name_in s i id in
      linked-unless (Open id flags) commit (open_refusals s i name flags) _ (refl, refl, (refl, refl, (refl, refl, (refl, refl, (refl, refl, tt)))))
      (λ none quiet opened notes.
      let rows = all-off (open_refusals s i name flags) none in
      open-added entries entries old new s.sessions are_open i within name flags file (λ k number h live. keeps-itself entries h.name) opened
      (subst (λ (f : Flags). AddsHandle old new file i (session_at s i).next_handle f) (without_overwrite-same flags rows.0) notes))

  linked-create : (id : List ℕ) (flags : Flags) (attributes bytes : List ℕ)
      → Linked (Create id flags attributes bytes) (is_commit s i (Create id flags attributes bytes)) (create_of s i id flags attributes bytes)
  unfolding create_of
  linked-create id flags attributes bytes =
      let call : Call = Create id flags attributes bytes in
      linked-unless call (is_commit s i call) (create_refusals s i (name_in s i id) flags attributes bytes) _
      (refl, refl, (refl, refl, (refl, refl, (refl, refl, (refl, refl, (refl, refl, tt)))))) (λ none quiet opened notes. absurd (true≢false quiet))

  pub linked : (call : Call) → Linked call (is_commit s i call) (outcome_of s i call)
  unfolding close_of read_of seek_of info_of rename_of delete_of enum_new_of enum_start_of enum_next_of enum_reset_of enum_free_of
  linked (Create id flags attributes bytes) = linked-create id flags attributes bytes
  linked (Open id flags) = linked-open (is_commit s i (Open id flags)) id flags
  linked (Close number) =
      linked-handle (Close number) (is_commit s i (Close number)) (handle_at (session_at s i) number) _
      (λ h live quiet opened notes. open-dropped entries old new s.sessions are_open i number entries within notes (λ k n g live' other. keeps-itself entries g.name))
  linked (Read number size) =
      linked-right (Read number size) (is_commit s i (Read number size)) read_bit (handle_at (session_at s i) number) _
      (λ h live. linked-sound (Read number size) (is_commit s i (Read number size)) (object_at s.objects h.name) _
      (λ c. linked-either (Read number size) (is_commit s i (Read number size)) ((list_any (meets_block h.position (h.position + length (bytes_at c.bytes h.position size))) c.bad, Corrupt) ∷ []) s _
      (λ reply _ _ same. same-records entries old new s i are_open within same)
      (λ _ _ same. same-position entries old new s i are_open within number h (h.position + length (bytes_at c.bytes h.position size)) live same)))
  linked (Write number bytes) = linked-write (is_commit s i (Write number bytes)) number bytes
  linked (Truncate number size) = linked-truncate (is_commit s i (Truncate number size)) number size
  linked (Seek number offset whence) =
      linked-handle (Seek number offset whence) (is_commit s i (Seek number offset whence)) (handle_at (session_at s i) number) _
      (λ h live. linked-either (Seek number offset whence) (is_commit s i (Seek number offset whence))
      ((int_lt (pos 4294967295) (pos (seek_base whence h.position (size_at s.objects h.name)) +ℤ offset), Refused Overflow) ∷ []) s _
      (λ reply _ _ same. same-records entries old new s i are_open within same)
      (λ _ _ same. same-position entries old new s i are_open within number h _ live same))
  linked (Rename number id) =
      linked-right (Rename number id) (is_commit s i (Rename number id)) write_meta_bit (handle_at (session_at s i) number) _
      (λ h live. linked-either (Rename number id) (is_commit s i (Rename number id)) ((holds s.objects (name_in s i id), Refused AccessConflict) ∷ []) s _
      (λ reply _ _ same. same-records entries old new s i are_open within same) (λ quiet _ _. absurd (true≢false quiet)))
  linked (Delete number) =
      linked-right (Delete number) (is_commit s i (Delete number)) write_meta_bit (handle_at (session_at s i) number) _ (λ h live quiet _ _. absurd (true≢false quiet))
  linked (Info number) =
      linked-handle (Info number) (is_commit s i (Info number)) (handle_at (session_at s i) number) _
      (λ h live. linked-sound (Info number) (is_commit s i (Info number)) (object_at s.objects h.name) _ (λ c _ _ same. same-records entries old new s i are_open within same))
  linked EnumNew =
      linked-either EnumNew (is_commit s i EnumNew) ((has_all (session_at s i).enumerators, Misuse TooMany) ∷ []) s _ (λ reply _ _ same. same-records entries old new s i are_open within same)
      (λ _ _ same. same-enumerators entries old new s i are_open within (allocated (session_at s i).enumerators) same)
  linked (EnumStart number) =
      linked-cursor (EnumStart number) (is_commit s i (EnumStart number)) (cursor_at (session_at s i).enumerators number) _
      (λ cursor. linked-either (EnumStart number) (is_commit s i (EnumStart number)) ((not (list_any (is_of (session_at s i).application) s.objects), Refused ItemNotFound) ∷ [])
      (with_enumerators s i (reset (session_at s i).enumerators number)) _
      (λ reply _ _ same. same-enumerators entries old new s i are_open within (reset (session_at s i).enumerators number) same)
      (λ _ _ same. same-enumerators entries old new s i are_open within (started (session_at s i).enumerators number) same))
  linked (EnumNext number) =
      linked-cursor (EnumNext number) (is_commit s i (EnumNext number)) (cursor_at (session_at s i).enumerators number) _ (λ cursor. gives _)
    where
      gives : (next : Option (List ℕ × ℕ)) → Linked (EnumNext number) (is_commit s i (EnumNext number)) (enum_gives s i number next)
      gives None = linked-refuse (EnumNext number) (is_commit s i (EnumNext number)) (Refused ItemNotFound) refl refl
      gives (Some (id, size)) = λ _ _ same. same-enumerators entries old new s i are_open within (advanced (session_at s i).enumerators number id) same
  linked (EnumReset number) =
      linked-cursor (EnumReset number) (is_commit s i (EnumReset number)) (cursor_at (session_at s i).enumerators number) _
      (λ cursor _ _ same. same-enumerators entries old new s i are_open within (reset (session_at s i).enumerators number) same)
  linked (EnumFree number) =
      linked-cursor (EnumFree number) (is_commit s i (EnumFree number)) (cursor_at (session_at s i).enumerators number) _
      (λ cursor _ _ same. same-enumerators entries old new s i are_open within (freed (session_at s i).enumerators number) same)
