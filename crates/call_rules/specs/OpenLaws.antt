-- The table keeps the open handles of the machine, call by call.
use Rattle.std.specs.Prelude.{◌≡◌, ◌<◌, ◌↔◌, ℕ, true, false, List, [], length, Option, Some}
use Rattle.tee_types.specs.declared.call.Call.{Call}
use Rattle.tee_types.specs.declared.call.Call.TheVariants.{Open, Delete}
use Rattle.tee_types.specs.declared.reply.Reply.{Reply}
use Rattle.tee_types.specs.declared.reply.Reply.TheVariants.{Handle as HandleReply}
use Rattle.dir_records.specs.declared.entry.DirEntry.{DirEntry}
use Rattle.open_table.specs.declared.table.OpenRecord.{OpenRecord}
use Rattle.open_table.specs.Table.{TableState, record_at}
use Rattle.store_model.specs.Object.{Object}
use Rattle.store_model.specs.Machine.{MachineState, Session, name_in}
use Rattle.store_model.specs.Makes.{MakesChange, MapChange}
use Rattle.store_model.specs.Calls.{is_commit, reply_of, state_after}
use Rattle.store_model.specs.Doubt.{Doubt, state_landed}
use Rattle.store_model.specs.ReplayState.{PhaseOpening, is_undone, opening}
use Rattle.core_laws.specs.EntryLists.{AreDistinct}
use Rattle.core_laws.specs.declared.EntryChange.{EntryChange}
use Rattle.core_laws.specs.EntryChanges.{IsChange, changed, file_put}
use Rattle.open_table.specs.HandleChanges.{DropsHandle, NotesReply}
use Rattle.call_rules.specs.HandleLaws.{IsDue}
use Rattle.call_rules.specs.OpenHandles.{AreOpen, HasFile}
use Rattle.call_rules.specs.WellOpened.{WellOpened}

-- A phase opens with no handle in its table.
abbrev pub OpeningsAreOpen : Type 0
OpeningsAreOpen =
    (entries : List (Option DirEntry)) (table : TableState) (phase : PhaseOpening) → table.records ≡ [] → AreOpen entries table (opening phase).state.sessions

-- A handle that is dropped takes its own record away, and no other.
abbrev pub DropsTakeOneRecord : Type 0
DropsTakeOneRecord =
    (entries : List (Option DirEntry)) (old new : TableState) (sessions : List Session) (i number : ℕ) → AreOpen entries old sessions
    → DropsHandle old new i number → (key : ℕ) (r : OpenRecord)
    → (record_at new key ≡ Some r) ↔ ((record_at old key ≡ Some r) × ((r.session ≡ i) × (r.handle ≡ number) → ⊥))

-- A call that is not done changes no handle.
abbrev pub UndoneCallsKeepOpen : Type 0
UndoneCallsKeepOpen =
    (entries : List (Option DirEntry)) (old new : TableState) (sessions : List Session) (i file : ℕ) (call : Call) (reply : Reply)
    → AreOpen entries old sessions → is_undone reply ≡ true → NotesReply old new file i call reply → AreOpen entries new sessions

-- an open gives a handle on the file of its object's entry
abbrev pub IsOpenedFile : List (Option DirEntry) → MachineState → ℕ → Call → Reply → (file : ℕ) → Type 0
IsOpenedFile entries s i (Open id flags) (HandleReply number) file = HasFile entries (name_in s i id) file
IsOpenedFile entries s i call reply file = Unit {0}

-- A call that is answered as the machine does, and is no commit, leaves the entries, and the table follows.
abbrev pub AnsweredCallsKeepOpen : Type 0
AnsweredCallsKeepOpen =
    (entries : List (Option DirEntry)) (old new : TableState) (s : MachineState) (i file : ℕ) (call : Call) → AreOpen entries old s.sessions
    → i < length s.sessions → is_commit s i call (reply_of s i call) ≡ false → IsOpenedFile entries s i call (reply_of s i call) file
    → NotesReply old new file i call (reply_of s i call) → AreOpen entries new (state_after s i call).sessions

-- A commit that is made changes an entry, and the table follows.
abbrev pub MadeCommitsKeepOpen : Type 0
MadeCommitsKeepOpen =
    (entries : List (Option DirEntry)) (old new : TableState) (s : MachineState) (i file counter : ℕ) (call : Call)
    (made : MapChange) (change : EntryChange) (object : Object) → AreOpen entries old s.sessions → WellOpened s → AreDistinct entries
    → i < length s.sessions → is_commit s i call (reply_of s i call) ≡ true → MakesChange s i call made
    → IsChange s.objects entries counter made change object → ((put : ℕ) → file_put change ≡ Some put → file ≡ put)
    → NotesReply old new file i call (reply_of s i call) → AreOpen (changed entries change) new (state_after s i call).sessions

-- what the table does as a commit in doubt lands: the handle of a delete is dropped
abbrev pub NotesLanding : (old new : TableState) → ℕ → Call → Type 0
NotesLanding old new i (Delete handle) = DropsHandle old new i handle
NotesLanding old new i call = new.records ≡ old.records

-- So does a commit in doubt as it lands.
abbrev pub LandedCommitsKeepOpen : Type 0
LandedCommitsKeepOpen =
    (entries : List (Option DirEntry)) (old new : TableState) (s : MachineState) (doubt : Doubt) (counter : ℕ)
    (made : MapChange) (change : EntryChange) (object : Object) → AreOpen entries old s.sessions → WellOpened s → AreDistinct entries
    → IsDue s doubt → MakesChange s doubt.session doubt.call made → IsChange s.objects entries counter made change object
    → NotesLanding old new doubt.session doubt.call → AreOpen (changed entries change) new (state_landed s doubt).sessions
