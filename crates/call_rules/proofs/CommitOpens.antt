-- The table keeps the open handles at a commit that is made, and at one that lands, whatever its call.
use Rattle.std.proofs.Common.{◌≡◌, ◌<◌, ℕ, true, false, true≢false, List, [], length, slice_set, Option, Some, None, refl, sym, ap, ◌∙◌, subst, arith}
use Rattle.tee_types.specs.declared.call.Call.{Call}
use Rattle.tee_types.specs.declared.call.Call.TheVariants.{Create, Write, Truncate, Rename, Delete}
use Rattle.tee_types.specs.declared.flags.Flags.{Flags}
use Rattle.tee_types.specs.Rights.{without_overwrite}
use Rattle.dir_records.specs.declared.entry.DirEntry.{DirEntry}
use Rattle.enumerators.specs.Places.{IsNumbered}
use Rattle.open_table.specs.declared.table.OpenRecord.{OpenRecord}
use Rattle.open_table.specs.Table.{TableState, record_at}
use Rattle.store_model.specs.declared.name.ObjectName.{ObjectName}
use Rattle.store_model.specs.declared.session.Handle.{Handle}
use Rattle.store_model.specs.Object.{Object, holds}
use Rattle.store_model.specs.Machine.{MachineState, Outcome, Session, name_in, new_session, session_at}
use Rattle.store_model.specs.Makes.{MakesChange, MapChange, Change, Move, Remove}
use Rattle.store_model.specs.Makes.{Put as PutObject}
use Rattle.store_model.specs.Calls.{is_commit, reply_of, state_after}
use Rattle.store_model.specs.Doubt.{follows, session_landed}
use Rattle.store_model.specs.ReplayState.{PhaseOpening, opening}
use Rattle.store_model.proofs.MadeChanges.{unrefused}
use Rattle.core_laws.specs.EntryLists.{AreDistinct}
use Rattle.core_laws.specs.declared.EntryChange.{EntryChange}
use Rattle.core_laws.specs.declared.EntryChange.TheVariants.{Clear, Put}
use Rattle.core_laws.specs.EntryChanges.{Enters, IsEntryOf, IsNewEntry, IsNextEntry, changed, file_put, index_of}
use Rattle.open_table.specs.HandleChanges.{NotesReply}
use Rattle.call_rules.specs.OpenHandles.{AreOpen}
use Rattle.call_rules.specs.OpenLaws.{NotesLanding}
use Rattle.call_rules.specs.WellOpened.{WellOpened}
use Rattle.call_rules.proofs.CallHandles.{create-alone}
use Rattle.call_rules.proofs.ChangedFiles.{keeps-same, new-not_at, put-file}
use Rattle.call_rules.proofs.LandedHandles.{delete-right, rename-right}
use Rattle.call_rules.proofs.MadeOpens.{create-done, delete-done, files-elsewhere, open-deleted, open-renamed, rename-done, set-same}
use Rattle.call_rules.proofs.LinkedCalls.{linked-truncate, linked-write}
use Rattle.call_rules.proofs.OpenCalls.{same-pairs}
use Rattle.call_rules.proofs.OpenSteps.{IsLive, KeepsFile, open-added, open-same}
use Rattle.call_rules.proofs.EntryLists.{at_number}
use Rattle.call_rules.proofs.ReplayHandles.{no-handles, well_opened-opening}

-- an entry that changed for one that tells the same file
keep-entries : (entries after : List (Option DirEntry)) (table : TableState) (sessions : List Session) → AreOpen entries table sessions → ((q : ObjectName) → KeepsFile entries after q) → AreOpen after table sessions
keep-entries entries after table sessions are_open keeps =
    open-same entries after table table sessions are_open sessions (same-pairs entries after sessions are_open.numbered (λ k n h live. keeps h.name)) refl

module _ (entries : List (Option DirEntry)) (old new : TableState) (s : MachineState) (i : ℕ) (are_open : AreOpen entries old s.sessions) (well : WellOpened s) (distinct : AreDistinct entries) (counter : ℕ) where
  -- what enters the directory for the call
  pub record IsEntered (call : Call) (made : MapChange) (change : EntryChange) (object : Object) : Type 0 where
    pub due : is_commit s i call (reply_of s i call) ≡ true
    pub makes : MakesChange s i call made
    pub enters : Enters made s.objects entries counter change object
    pub place : index_of change < length entries

  -- a new object's entry is that of no live handle's name
  create-files : (id : List ℕ) (flags : Flags) (attributes bytes : List ℕ) (index : ℕ) (e : DirEntry) (name : ObjectName) → IsNewEntry entries counter index e name → name ≡ name_in s i id
      → is_commit s i (Create id flags attributes bytes) (reply_of s i (Create id flags attributes bytes)) ≡ true
      → (k n : ℕ) (h : Handle) → IsLive s.sessions k n h → KeepsFile entries (slice_set entries index (Some e)) h.name
  create-files id flags attributes bytes index e name entry named due =
      files-elsewhere entries old new s i are_open well index (Some e)
      (λ k n h live. new-not_at entries index counter e name h.name entry
      (λ same. create-alone s well i id flags attributes bytes (unrefused s i (Create id flags attributes bytes) due) k n h live (same ∙ named)))

  module _ (file : ℕ) (within : i < length s.sessions) where
    abbrev Made : Call → MapChange → EntryChange → Object → Type 0
    Made call made change object =
        IsEntered call made change object → ((put : ℕ) → file_put change ≡ Some put → file ≡ put) → NotesReply old new file i call (reply_of s i call)
        → AreOpen (changed entries change) new (state_after s i call).sessions

    made-create : (id : List ℕ) (flags : Flags) (attributes bytes : List ℕ) (made : MapChange) (change : EntryChange) (object : Object) → Made (Create id flags attributes bytes) made change object
    made-create id flags attributes bytes (PutObject name put) (Put index e) object is puts notes =
        let call : Call = Create id flags attributes bytes in
        let done = create-done s i id flags attributes bytes (unrefused s i call is.due) in
        subst (λ (o : Outcome). AreOpen (slice_set entries index (Some e)) new (o.next).sessions) (sym done)
        (open-added entries (slice_set entries index (Some e)) old new s.sessions are_open i within (name_in s i id) (without_overwrite flags) file
        (create-files id flags attributes bytes index e name is.enters.0 is.makes.0 is.due)
        (put-file entries index is.place e (name_in s i id) file (is.enters.0.named ∙ is.makes.0) (puts e.file refl))
        (subst (λ (o : Outcome). NotesReply old new file i call o.reply) done notes))
    made-create id flags attributes bytes (PutObject name put) (Clear index) object is puts notes = absurd is.enters
    made-create id flags attributes bytes (Change name put) change object is puts notes = absurd is.makes
    made-create id flags attributes bytes (Move one other) change object is puts notes = absurd is.makes
    made-create id flags attributes bytes (Remove name) change object is puts notes = absurd is.makes

    made-write : (number : ℕ) (bytes : List ℕ) (made : MapChange) (change : EntryChange) (object : Object) → Made (Write number bytes) made change object
    made-write number bytes (Change name put) (Put index e) object is puts notes =
        keep-entries entries (slice_set entries index (Some e)) new (state_after s i (Write number bytes)).sessions
        (linked-write entries old new s i file are_open within (λ _. false) number bytes refl tt notes)
        (keeps-same entries index is.place e name is.enters.0)
    made-write number bytes (Change name put) (Clear index) object is puts notes = absurd is.enters
    made-write number bytes (PutObject name put) change object is puts notes = absurd is.makes
    made-write number bytes (Move one other) change object is puts notes = absurd is.makes
    made-write number bytes (Remove name) change object is puts notes = absurd is.makes

    made-truncate : (number size : ℕ) (made : MapChange) (change : EntryChange) (object : Object) → Made (Truncate number size) made change object
    made-truncate number size (Change name put) (Put index e) object is puts notes =
        keep-entries entries (slice_set entries index (Some e)) new (state_after s i (Truncate number size)).sessions
        (linked-truncate entries old new s i file are_open within (λ _. false) number size refl tt notes)
        (keeps-same entries index is.place e name is.enters.0)
    made-truncate number size (Change name put) (Clear index) object is puts notes = absurd is.enters
    made-truncate number size (PutObject name put) change object is puts notes = absurd is.makes
    made-truncate number size (Move one other) change object is puts notes = absurd is.makes
    made-truncate number size (Remove name) change object is puts notes = absurd is.makes

    made-rename : (number : ℕ) (id : List ℕ) (made : MapChange) (change : EntryChange) (object : Object) → Made (Rename number id) made change object
    made-rename number id (Move one name) (Put index e) object is puts notes =
        let by = is.makes.0 in
        let right = rename-right s i number id by.handle by.live is.due in
        let next : IsNextEntry entries index e (by.handle).name (name_in s i id) =
        subst (λ (q : ObjectName). IsNextEntry entries index e q (name_in s i id)) (sym by.named) (subst (λ (q : ObjectName). IsNextEntry entries index e one q) is.makes.1 is.enters.0) in
        subst (λ (o : Outcome). AreOpen (slice_set entries index (Some e)) new (o.next).sessions)
        (sym (rename-done s i number id by.handle by.live right (ap (holds s.objects) (sym is.makes.1) ∙ is.makes.2)))
        (open-renamed entries old new s i are_open well number by.handle by.live right index e (name_in s i id) is.place next distinct notes)
    made-rename number id (Move one name) (Clear index) object is puts notes = absurd is.enters
    made-rename number id (PutObject name put) change object is puts notes = absurd is.makes
    made-rename number id (Change name put) change object is puts notes = absurd is.makes
    made-rename number id (Remove name) change object is puts notes = absurd is.makes

    made-delete : (number : ℕ) (made : MapChange) (change : EntryChange) (object : Object) → Made (Delete number) made change object
    made-delete number (Remove name) (Clear index) object is puts notes =
        let by = is.makes in
        let right = delete-right s i number by.handle by.live is.due in
        let done = delete-done s i number by.handle by.live right in
        subst (λ (o : Outcome). AreOpen (slice_set entries index None) new (o.next).sessions) (sym done)
        (open-deleted entries old new s i are_open well number by.handle by.live right index (subst (IsEntryOf entries index) (sym by.named) is.enters)
        (subst (λ (o : Outcome). NotesReply old new file i (Delete number) o.reply) done notes))
    made-delete number (Remove name) (Put index e) object is puts notes = absurd is.enters
    made-delete number (PutObject name put) change object is puts notes = absurd is.makes
    made-delete number (Change name put) change object is puts notes = absurd is.makes
    made-delete number (Move one other) change object is puts notes = absurd is.makes

    pub made-open : (call : Call) (made : MapChange) (change : EntryChange) (object : Object) → Made call made change object
    made-open (Create id flags attributes bytes) made change object is puts notes = made-create id flags attributes bytes made change object is puts notes
    made-open (Write number bytes) made change object is puts notes = made-write number bytes made change object is puts notes
    made-open (Truncate number size) made change object is puts notes = made-truncate number size made change object is puts notes
    made-open (Rename number id) made change object is puts notes = made-rename number id made change object is puts notes
    made-open (Delete number) made change object is puts notes = made-delete number made change object is puts notes
    made-open call made change object is puts notes = absurd (true≢false (sym is.due))

  -- a commit in doubt that lands
  abbrev Landing : Call → MapChange → EntryChange → Object → Type 0
  Landing call made change object =
      IsEntered call made change object → NotesLanding old new i call → AreOpen (changed entries change) new (slice_set s.sessions i (session_landed s i call))

  -- with the handles as they are
  landed-same : (after : List (Option DirEntry)) → ((k n : ℕ) (h : Handle) → IsLive s.sessions k n h → KeepsFile entries after h.name) → new.records ≡ old.records
      → AreOpen after new (slice_set s.sessions i (session_at s i))
  landed-same after files same =
      subst (AreOpen after new) (sym (set-same s.sessions i (new_session [])))
      (open-same entries after old new s.sessions are_open s.sessions (same-pairs entries after s.sessions are_open.numbered files) same)

  landed-create : (id : List ℕ) (flags : Flags) (attributes bytes : List ℕ) (made : MapChange) (change : EntryChange) (object : Object) → Landing (Create id flags attributes bytes) made change object
  landed-create id flags attributes bytes (PutObject name put) (Put index e) object is same =
      landed-same (slice_set entries index (Some e)) (create-files id flags attributes bytes index e name is.enters.0 is.makes.0 is.due) same
  landed-create id flags attributes bytes (PutObject name put) (Clear index) object is same = absurd is.enters
  landed-create id flags attributes bytes (Change name put) change object is same = absurd is.makes
  landed-create id flags attributes bytes (Move one other) change object is same = absurd is.makes
  landed-create id flags attributes bytes (Remove name) change object is same = absurd is.makes

  landed-write : (number : ℕ) (bytes : List ℕ) (made : MapChange) (change : EntryChange) (object : Object) → Landing (Write number bytes) made change object
  landed-write number bytes (Change name put) (Put index e) object is same =
      landed-same (slice_set entries index (Some e)) (λ k n h live. keeps-same entries index is.place e name is.enters.0 h.name) same
  landed-write number bytes (Change name put) (Clear index) object is same = absurd is.enters
  landed-write number bytes (PutObject name put) change object is same = absurd is.makes
  landed-write number bytes (Move one other) change object is same = absurd is.makes
  landed-write number bytes (Remove name) change object is same = absurd is.makes

  landed-truncate : (number size : ℕ) (made : MapChange) (change : EntryChange) (object : Object) → Landing (Truncate number size) made change object
  landed-truncate number size (Change name put) (Put index e) object is same =
      landed-same (slice_set entries index (Some e)) (λ k n h live. keeps-same entries index is.place e name is.enters.0 h.name) same
  landed-truncate number size (Change name put) (Clear index) object is same = absurd is.enters
  landed-truncate number size (PutObject name put) change object is same = absurd is.makes
  landed-truncate number size (Move one other) change object is same = absurd is.makes
  landed-truncate number size (Remove name) change object is same = absurd is.makes

  landed-rename : (number : ℕ) (id : List ℕ) (made : MapChange) (change : EntryChange) (object : Object) → Landing (Rename number id) made change object
  landed-rename number id (Move one name) (Put index e) object is same =
      let by = is.makes.0 in
      let right = rename-right s i number id by.handle by.live is.due in
      let next : IsNextEntry entries index e (by.handle).name (name_in s i id) =
      subst (λ (q : ObjectName). IsNextEntry entries index e q (name_in s i id)) (sym by.named) (subst (λ (q : ObjectName). IsNextEntry entries index e one q) is.makes.1 is.enters.0) in
      subst (λ (o : Option Handle). AreOpen (slice_set entries index (Some e)) new (slice_set s.sessions i (follows s i number id o))) (sym by.live)
      (open-renamed entries old new s i are_open well number by.handle by.live right index e (name_in s i id) is.place next distinct same)
  landed-rename number id (Move one name) (Clear index) object is same = absurd is.enters
  landed-rename number id (PutObject name put) change object is same = absurd is.makes
  landed-rename number id (Change name put) change object is same = absurd is.makes
  landed-rename number id (Remove name) change object is same = absurd is.makes

  landed-delete : (number : ℕ) (made : MapChange) (change : EntryChange) (object : Object) → Landing (Delete number) made change object
  landed-delete number (Remove name) (Clear index) object is drops =
      let by = is.makes in
      open-deleted entries old new s i are_open well number by.handle by.live (delete-right s i number by.handle by.live is.due) index
      (subst (IsEntryOf entries index) (sym by.named) is.enters) drops
  landed-delete number (Remove name) (Put index e) object is drops = absurd is.enters
  landed-delete number (PutObject name put) change object is drops = absurd is.makes
  landed-delete number (Change name put) change object is drops = absurd is.makes
  landed-delete number (Move one other) change object is drops = absurd is.makes

  pub landed-open : (call : Call) (made : MapChange) (change : EntryChange) (object : Object) → Landing call made change object
  landed-open (Create id flags attributes bytes) made change object is notes = landed-create id flags attributes bytes made change object is notes
  landed-open (Write number bytes) made change object is notes = landed-write number bytes made change object is notes
  landed-open (Truncate number size) made change object is notes = landed-truncate number size made change object is notes
  landed-open (Rename number id) made change object is notes = landed-rename number id made change object is notes
  landed-open (Delete number) made change object is notes = landed-delete number made change object is notes
  landed-open call made change object is notes = absurd (true≢false (sym is.due))

-- a phase opens without handles, and so does its table
pub opening-open : (entries : List (Option DirEntry)) (table : TableState) (phase : PhaseOpening) → table.records ≡ [] → AreOpen entries table (opening phase).state.sessions
opening-open entries table phase none = record {
  each = λ i number h _ live. absurd (no-handles phase i number h live);
  back = λ key r found. absurd (no-record key r found);
  single = λ a b r q found _ _ _. absurd (no-record a r found);
  bound = 0;
  keyed = subst (λ (rs : List (ℕ × OpenRecord)). IsNumbered 0 rs 0) (sym none) (omega arith);
  numbered = (well_opened-opening phase).numbered;
}
  where
    no-record : (key : ℕ) (r : OpenRecord) → record_at table key ≡ Some r → ⊥
    no-record key r found =
        let both : None ≡ Some r = ap (λ (rs : List (ℕ × OpenRecord)). at_number rs key) (sym none) ∙ found in
        cc (both)
