-- Handles that stay, but for positions and names, and calls that are not done, beside the table of open handles.
use Rattle.std.proofs.Common.{◌≡◌, ◌<◌, ℕ, true, false, true≢false, List, [], length, length-set, slice_set, Option, Some, inl, inr, refl, sym, ap, ◌∙◌, subst}
use Rattle.std.proofs.lemmas.Bool.{cases_eq}
use Rattle.enumerators.specs.Enumeration.{EnumeratorTable}
use Rattle.tee_types.specs.declared.call.Call.{Call}
use Rattle.tee_types.specs.declared.call.Call.TheVariants.{Create, Open, Close, Delete}
use Rattle.tee_types.specs.declared.reply.Reply.{Reply}
use Rattle.tee_types.specs.declared.reply.Reply.TheVariants.{Done, Handle as HandleReply}
use Rattle.dir_records.specs.declared.entry.DirEntry.{DirEntry}
use Rattle.open_table.specs.Table.{TableState}
use Rattle.store_model.specs.declared.name.ObjectName.{ObjectName}
use Rattle.store_model.specs.declared.session.Handle.{Handle}
use Rattle.store_model.specs.Machine.{MachineState, Session, handle_at, new_session, session_at, with_handle}
use Rattle.store_model.specs.Calls.{is_done, is_handle}
use Rattle.store_model.specs.ReplayState.{is_undone}
use Rattle.open_table.specs.HandleChanges.{NotesReply}
use Rattle.call_rules.specs.Numbers.{HasNumbers}
use Rattle.call_rules.specs.OpenHandles.{AreOpen}
use Rattle.call_rules.proofs.EntryLists.{put-found, put-here, put-other}
use Rattle.call_rules.proofs.OpenSteps.{Follows, IsLive, KeepsFile, Pairs, nth, open-same}
use Rattle.call_rules.proofs.QuietSteps.{numbers-with, set_numbers}
use Rattle.call_rules.proofs.SessionLists.{set-in}

-- a reply that gives no handle and is not Done changes no record
pub quiet-notes : (old new : TableState) (file i : ℕ) (call : Call) (reply : Reply) → is_handle reply ≡ false → is_done reply ≡ false → NotesReply old new file i call reply → new.records ≡ old.records
quiet-notes old new file i (Create id flags attributes bytes) (HandleReply number) given done notes = absurd (true≢false given)
quiet-notes old new file i (Open id flags) (HandleReply number) given done notes = absurd (true≢false given)
quiet-notes old new file i (Close handle) Done given done notes = absurd (true≢false done)
quiet-notes old new file i (Delete handle) Done given done notes = absurd (true≢false done)
quiet-notes old new file i call reply given done notes = notes

undone-handle : (reply : Reply) → is_undone reply ≡ true → is_handle reply ≡ false
undone-handle (HandleReply number) undone = absurd (true≢false (sym undone))
undone-handle reply undone = refl

undone-done : (reply : Reply) → is_undone reply ≡ true → is_done reply ≡ false
undone-done Done undone = absurd (true≢false (sym undone))
undone-done reply undone = refl

-- the handles as they are
pub same-pairs : (entries after : List (Option DirEntry)) (sessions : List Session) → ((i : ℕ) → HasNumbers (nth sessions i))
    → ((k number : ℕ) (h : Handle) → IsLive sessions k number h → KeepsFile entries after h.name) → Pairs entries after sessions sessions
same-pairs entries after sessions numbered files = record {
  long = refl;
  to = λ k number h live. (h, live, record { flags = refl; files = files k number h live });
  from = λ k number h live. (h, live, record { flags = refl; files = files k number h live });
  numbered = numbered;
}

-- one session is set, with its handles but for positions, or with one that stands for another name
pub record SetPairs (entries after : List (Option DirEntry)) (old new : Session) : Type 0 where
  pub to : (number : ℕ) (h : Handle) → handle_at old number ≡ Some h → (h' : Handle) × (handle_at new number ≡ Some h') × Follows entries after h h'
  pub from : (number : ℕ) (h' : Handle) → handle_at new number ≡ Some h' → (h : Handle) × (handle_at old number ≡ Some h) × Follows entries after h h'
  pub numbered : HasNumbers new

pub set-pairs : (entries after : List (Option DirEntry)) (sessions : List Session) (i : ℕ) (x : Session) → i < length sessions → ((k : ℕ) → HasNumbers (nth sessions k))
    → SetPairs entries after (nth sessions i) x → ((k number : ℕ) (h : Handle) → (k ≡ i → ⊥) → IsLive sessions k number h → KeepsFile entries after h.name)
    → Pairs entries after sessions (slice_set sessions i x)
set-pairs entries after sessions i x within numbered pairs files = record {
  long = length-set sessions i x;
  to = λ k number h live. elim (set-in sessions i k x (new_session []) within) [
    | inl set_ ↦
        let to = pairs.to number h (ap (λ (m : ℕ). handle_at (nth sessions m) number) (sym set_.0) ∙ live) in
        (to.0, ap (λ (y : Session). handle_at y number) set_.1 ∙ to.1, to.2)
    | inr stays ↦ (h, ap (λ (y : Session). handle_at y number) stays.1 ∙ live, record { flags = refl; files = files k number h stays.0 live })
  ];
  from = λ k number h live. elim (set-in sessions i k x (new_session []) within) [
    | inl set_ ↦
        let from = pairs.from number h (ap (λ (y : Session). handle_at y number) (sym set_.1) ∙ live) in
        (from.0, ap (λ (m : ℕ). handle_at (nth sessions m) number) set_.0 ∙ from.1, from.2)
    | inr stays ↦
        let was : IsLive sessions k number h = ap (λ (y : Session). handle_at y number) (sym stays.1) ∙ live in
        (h, was, record { flags = refl; files = files k number h stays.0 was })
  ];
  numbered = set_numbers (record { objects = []; sessions = sessions }) i x numbered pairs.numbered;
}

-- one handle of the session is another: the other handles keep their files
pub handle-pairs : (entries after : List (Option DirEntry)) (session : Session) (number : ℕ) (handle changed : Handle) → HasNumbers session → handle_at session number ≡ Some handle
    → Follows entries after handle changed → ((n : ℕ) (h : Handle) → (n ≡ number → ⊥) → handle_at session n ≡ Some h → KeepsFile entries after h.name)
    → SetPairs entries after session (with_handle session number changed)
handle-pairs entries after session number handle changed numbers live follows files = record {
  to = λ n h was. elim (cases_eq n number) [
    | inl same ↦
        let one : handle ≡ h = (let both : Some handle ≡ Some h = sym live ∙ ap (handle_at session) (sym same) ∙ was in cc (both)) in
        (changed, ap (handle_at (with_handle session number changed)) same ∙ put-here session.handles number changed handle live, subst (λ (x : Handle). Follows entries after x changed) one follows)
    | inr other ↦ (h, put-other session.handles number changed n other ∙ was, record { flags = refl; files = files n h other was })
  ];
  from = λ n h is. elim (put-found session.handles number changed h handle n live is) [
    | inl here ↦ (handle, ap (handle_at session) here.0 ∙ live, subst (λ (x : Handle). Follows entries after handle x) (sym here.1) follows)
    | inr other ↦ (h, other.1, record { flags = refl; files = files n h other.0 other.1 })
  ];
  numbered = numbers-with session number changed numbers;
}

pub keeps-itself : (entries : List (Option DirEntry)) (name : ObjectName) → KeepsFile entries entries name
keeps-itself entries name file has_file = has_file

module _ (entries : List (Option DirEntry)) (old new : TableState) (s : MachineState) (i : ℕ) (are_open : AreOpen entries old s.sessions) (within : i < length s.sessions) where
  pub same-records : new.records ≡ old.records → AreOpen entries new s.sessions
  same-records same = open-same entries entries old new s.sessions are_open s.sessions
      (same-pairs entries entries s.sessions are_open.numbered (λ k number h live. keeps-itself entries h.name)) same

  pub same-position : (number : ℕ) (handle : Handle) (position : ℕ) → handle_at (session_at s i) number ≡ Some handle → new.records ≡ old.records
      → AreOpen entries new (slice_set s.sessions i (with_handle (session_at s i) number (record handle { position = position })))
  same-position number handle position live same =
      open-same entries entries old new s.sessions are_open (slice_set s.sessions i (with_handle (session_at s i) number (record handle { position = position })))
      (set-pairs entries entries s.sessions i (with_handle (session_at s i) number (record handle { position = position })) within are_open.numbered
      (handle-pairs entries entries (session_at s i) number handle (record handle { position = position }) (are_open.numbered i) live
      (record { flags = refl; files = keeps-itself entries handle.name }) (λ n h other live'. keeps-itself entries h.name))
      (λ k n h other live'. keeps-itself entries h.name)) same

  pub same-enumerators : (table : EnumeratorTable) → new.records ≡ old.records → AreOpen entries new (slice_set s.sessions i (record (session_at s i) { enumerators = table }))
  same-enumerators table same =
      open-same entries entries old new s.sessions are_open (slice_set s.sessions i (record (session_at s i) { enumerators = table }))
      (set-pairs entries entries s.sessions i (record (session_at s i) { enumerators = table }) within are_open.numbered
      (record {
        to = λ number h live. (h, live, record { flags = refl; files = keeps-itself entries h.name });
        from = λ number h live. (h, live, record { flags = refl; files = keeps-itself entries h.name });
        numbered = are_open.numbered i;
      })
      (λ k n h other live'. keeps-itself entries h.name)) same

pub undone_open : (entries : List (Option DirEntry)) (old new : TableState) (sessions : List Session) (i file : ℕ) (call : Call) (reply : Reply)
    → AreOpen entries old sessions → is_undone reply ≡ true → NotesReply old new file i call reply → AreOpen entries new sessions
undone_open entries old new sessions i file call reply are_open undone notes =
    open-same entries entries old new sessions are_open sessions (same-pairs entries entries sessions are_open.numbered (λ k number h live. keeps-itself entries h.name))
    (quiet-notes old new file i call reply (undone-handle reply undone) (undone-done reply undone) notes)
