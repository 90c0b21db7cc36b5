-- What a call does that is not refused, and the table beside a rename and a delete.
use Rattle.std.proofs.Common.{◌≡◌, ◌≢◌, ◌<◌, ◌⊎◌, ℕ, zero, suc, Bool, true, false, cond, List, [], ◌∷◌, length, slice_index_or, slice_set, Option, Some, None, inl, inr, refl, sym, ap, ◌∙◌}
use Rattle.tee_types.specs.declared.flags.Flags.{Flags}
use Rattle.tee_types.specs.declared.reply.Reply.{Reply}
use Rattle.tee_types.specs.declared.reply.Reply.TheVariants.{Done, Misuse, Refused}
use Rattle.tee_types.specs.declared.reply.Code.TheVariants.{AccessConflict}
use Rattle.tee_types.specs.declared.reply.Reason.TheVariants.{NoRight}
use Rattle.tee_types.specs.Rights.{has, without_overwrite, write_meta_bit}
use Rattle.dir_records.specs.declared.entry.DirEntry.{DirEntry}
use Rattle.open_table.specs.Table.{TableState}
use Rattle.store_model.specs.declared.name.ObjectName.{ObjectName}
use Rattle.store_model.specs.declared.session.Handle.{Handle}
use Rattle.store_model.specs.Object.{Sound, holds, moved_object, with_object, without_object}
use Rattle.store_model.specs.Machine.{MachineState, Outcome, Session, by_right, first_refusal, handle_at, name_in, refuse, session_at, unless_refused, with_handle, with_session, without_handle}
use Rattle.store_model.specs.Handles.{create_of, create_refusals, open_handle}
use Rattle.store_model.specs.Naming.{delete_of, rename_of}
use Rattle.core_laws.specs.Entries.{name_of}
use Rattle.core_laws.specs.EntryLists.{AreDistinct}
use Rattle.core_laws.specs.EntryChanges.{IsEntryOf, IsNextEntry}
use Rattle.open_table.specs.HandleChanges.{DropsHandle}
use Rattle.call_rules.specs.OpenHandles.{AreOpen}
use Rattle.call_rules.specs.WellOpened.{WellOpened}
use Rattle.call_rules.proofs.AloneHandles.{alone}
use Rattle.call_rules.proofs.ChangedFiles.{IsNotAt, keeps-elsewhere, moves-file, next-not_at}
use Rattle.call_rules.proofs.DroppedHandles.{open-dropped}
use Rattle.call_rules.proofs.OpenCalls.{handle-pairs, set-pairs}
use Rattle.call_rules.proofs.OpenSteps.{IsLive, KeepsFile, open-same}
use Rattle.call_rules.proofs.SessionLists.{live-within}

pub set-same : (sessions : List Session) (i : ℕ) (d : Session) → slice_set sessions i (slice_index_or sessions i d) ≡ sessions
set-same [] i d = refl
set-same (x ∷ sessions) zero d = refl
set-same (x ∷ sessions) (suc i) d = ap (λ (l : List Session). x ∷ l) (set-same sessions i d)

module _ (s : MachineState) (i : ℕ) where
  -- what a call does that is not refused
  pub create-done : (id : List ℕ) (flags : Flags) (attributes bytes : List ℕ) → first_refusal (create_refusals s i (name_in s i id) flags attributes bytes) ≡ None
      → create_of s i id flags attributes bytes
      ≡ open_handle (record s { objects = with_object s.objects (name_in s i id) (Sound (record { attributes = attributes; bytes = bytes; bad = [] })) }) i (name_in s i id) (without_overwrite flags)
  unfolding create_of
  create-done id flags attributes bytes none =
      ap (λ (o : Option Reply). elim o as (λ _. Outcome) [
        | Some reply ↦ refuse s reply
        | None ↦ open_handle (record s { objects = with_object s.objects (name_in s i id) (Sound (record { attributes = attributes; bytes = bytes; bad = [] })) }) i (name_in s i id) (without_overwrite flags)
      ]) none

  by_right-done : (handle : Handle) (done : Handle → Outcome) (number : ℕ) → handle_at (session_at s i) number ≡ Some handle → has handle.flags write_meta_bit ≡ true
      → by_right s write_meta_bit (handle_at (session_at s i) number) done ≡ done handle
  by_right-done handle done number live right =
      ap (λ (o : Option Handle). by_right s write_meta_bit o done) live ∙ ap (λ (b : Bool). cond b (done handle) (refuse s (Misuse NoRight))) right

  pub rename-done : (number : ℕ) (id : List ℕ) (handle : Handle) → handle_at (session_at s i) number ≡ Some handle → has handle.flags write_meta_bit ≡ true → holds s.objects (name_in s i id) ≡ false
      → rename_of s i number id ≡ record {
        reply = Done;
        next = with_session (record s { objects = moved_object s.objects handle.name (name_in s i id) }) i (with_handle (session_at s i) number (record handle { name = name_in s i id }));
      }
  unfolding rename_of
  rename-done number id handle live right free =
      by_right-done handle _ number live right
      ∙ ap (λ (b : Bool). unless_refused ((b, Refused AccessConflict) ∷ []) s (record {
        reply = Done;
        next = with_session (record s { objects = moved_object s.objects handle.name (name_in s i id) }) i (with_handle (session_at s i) number (record handle { name = name_in s i id }));
      })) free

  pub delete-done : (number : ℕ) (handle : Handle) → handle_at (session_at s i) number ≡ Some handle → has handle.flags write_meta_bit ≡ true
      → delete_of s i number ≡ record {
        reply = Done;
        next = with_session (record s { objects = without_object s.objects handle.name }) i (without_handle (session_at s i) number);
      }
  unfolding delete_of
  delete-done number handle live right = by_right-done handle _ number live right

module _ (entries : List (Option DirEntry)) (old new : TableState) (s : MachineState) (i : ℕ) (are_open : AreOpen entries old s.sessions) (well : WellOpened s) where
  -- the files of live handles' names, where an entry of a name that no handle has is another
  pub files-elsewhere : (index : ℕ) (x : Option DirEntry) → ((k n : ℕ) (h : Handle) → IsLive s.sessions k n h → IsNotAt entries index h.name)
      → (k n : ℕ) (h : Handle) → IsLive s.sessions k n h → KeepsFile entries (slice_set entries index x) h.name
  files-elsewhere index x apart k n h live = keeps-elsewhere entries index x h.name (apart k n h live)

  module _ (number : ℕ) (handle : Handle) (live : handle_at (session_at s i) number ≡ Some handle) (right : has handle.flags write_meta_bit ≡ true) where
    range : i < length s.sessions
    range = live-within s.sessions i number handle live

    -- another handle has another name
    other-name : (k n : ℕ) (h : Handle) → IsLive s.sessions k n h → (k ≢ i) ⊎ (n ≢ number) → h.name ≢ handle.name
    other-name k n h live' (inl other) same = other (sym (alone s well i number handle live right k n h live' same).0)
    other-name k n h live' (inr other) same = other (sym (alone s well i number handle live right k n h live' same).1)

    pub open-renamed : (index : ℕ) (e : DirEntry) (name : ObjectName) → index < length entries → IsNextEntry entries index e handle.name name → AreDistinct entries → new.records ≡ old.records
        → AreOpen (slice_set entries index (Some e)) new (slice_set s.sessions i (with_handle (session_at s i) number (record handle { name = name })))
    open-renamed index e name within next distinct same =
        open-same entries (slice_set entries index (Some e)) old new s.sessions are_open (slice_set s.sessions i (with_handle (session_at s i) number (record handle { name = name })))
        (set-pairs entries (slice_set entries index (Some e)) s.sessions i (with_handle (session_at s i) number (record handle { name = name })) range are_open.numbered
        (handle-pairs entries (slice_set entries index (Some e)) (session_at s i) number handle (record handle { name = name }) (are_open.numbered i) live
        (record { flags = refl; files = moves-file entries index within e handle.name name next distinct })
        (λ n h other live'. keeps-elsewhere entries index (Some e) h.name (next-not_at entries index e handle.name name h.name next (other-name i n h live' (inr other)))))
        (λ k n h other live'. keeps-elsewhere entries index (Some e) h.name (next-not_at entries index e handle.name name h.name next (other-name k n h live' (inl other))))) same

    pub open-deleted : (index : ℕ) → IsEntryOf entries index handle.name → DropsHandle old new i number
        → AreOpen (slice_set entries index None) new (slice_set s.sessions i (without_handle (session_at s i) number))
    open-deleted index was drops =
        open-dropped entries old new s.sessions are_open i number (slice_set entries index None) range drops
        (λ k n h live' other. keeps-elsewhere entries index None h.name
        (λ f at same.
        let both : Some f ≡ Some was.entry = sym at ∙ was.at in
        let one : f ≡ was.entry = cc (both) in
        other-name k n h live' other (sym same ∙ ap name_of one ∙ was.named)))
