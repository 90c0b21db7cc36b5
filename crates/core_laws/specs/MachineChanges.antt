-- That the entries change as the machine's map does, by a call that is a commit.
use Rattle.std.specs.Prelude.{◌≡◌, ◌+◌, ◌<◌, ℕ, true, List, [], Option, Some, length, max, slice_index_or}
use Rattle.tee_types.specs.declared.call.Call.{Call}
use Rattle.tee_types.specs.declared.call.Call.TheVariants.{Create, Delete, Rename, Truncate, Write}
use Rattle.store_model.specs.declared.session.Handle.{Handle}
use Rattle.store_model.specs.Object.{Object, ObjectMap, object_at, size_of}
use Rattle.store_model.specs.Machine.{MachineState, handle_at, session_at}
use Rattle.store_model.specs.ReplayState.{ReplayState}
use Rattle.store_model.specs.Legal.{is_commit_due}
use Rattle.dir_records.specs.declared.entry.DirEntry.{DirEntry}
use Rattle.crash_core.specs.Entries.{name_of}
use Rattle.crash_core.specs.EntryLists.{entry_at}
use Rattle.crash_core.specs.declared.change.EntryChange.{EntryChange}
use Rattle.crash_core.specs.declared.change.EntryChange.TheVariants.{Clear, Put}
use Rattle.crash_core.specs.EntryChanges.{index_of}
use Rattle.history_seats.specs.Records.{HistoryRecord}
use Rattle.core_laws.specs.TamperScenarios.{TamperScenario}
use Rattle.core_laws.specs.Stores.{Store, replay_at}
use Rattle.core_laws.specs.CallChanges.{IsCallChange}
use Rattle.core_laws.specs.Ties.{MakesEntries}

-- each entry's object is there, with the size that the entry tells
abbrev pub HaveSizes : List (Option DirEntry) → ObjectMap → Type 0
HaveSizes entries objects =
    (index : ℕ) (e : DirEntry) → entry_at entries index ≡ Some e → (object : Object) × (object_at objects (name_of e) ≡ Some object) × (size_of object ≡ e.size)

-- The session's live handle of that number is of the object of the entry there.
pub record IsAtHand (s : MachineState) (session number : ℕ) (entries : List (Option DirEntry)) (index : ℕ) : Type 0 where
  pub handle : Handle
  pub live : handle_at (session_at s session) number ≡ Some handle
  pub entry : DirEntry
  pub at : entry_at entries index ≡ Some entry
  pub named : handle.name ≡ name_of entry

-- The call names the object of the entry that changes, and the entry that is put tells the size that the call leaves.
abbrev pub IsCallOn : MachineState → (session : ℕ) → Call → List (Option DirEntry) → EntryChange → Type 0
IsCallOn s session (Create id flags attributes bytes) entries (Put index e) = e.size ≡ length bytes
IsCallOn s session (Write number bytes) entries (Put index e) = (own : IsAtHand s session number entries index) × (e.size ≡ max own.entry.size (own.handle.position + length bytes))
IsCallOn s session (Truncate number size) entries (Put index e) = IsAtHand s session number entries index × (e.size ≡ size)
IsCallOn s session (Rename number id) entries (Put index e) = (own : IsAtHand s session number entries index) × (e.size ≡ own.entry.size)
IsCallOn s session (Delete number) entries (Clear index) = IsAtHand s session number entries index
IsCallOn s session _ entries _ = ⊥

-- A commit of the machine changes its map as the call changes the entries.
abbrev pub CommitsMakeEntries : Type 0
CommitsMakeEntries =
    (s : ReplayState) (session : ℕ) (call : Call) (entries : List (Option DirEntry)) (change : EntryChange) → HaveSizes entries s.state.objects
    → is_commit_due s session call ≡ true → IsCallChange (session_at s.state session).application call entries s.counter change → index_of change < length entries
    → IsCallOn s.state session call entries change → MakesEntries s session call entries change

-- Whatever happens, a session stays of the application that the mount tells.
abbrev pub ApplicationsStay : Type 0
ApplicationsStay =
    (store : Store) (scenario : TamperScenario) (records : List HistoryRecord) (session : ℕ)
    → (session_at (replay_at store scenario records).state session).application ≡ slice_index_or store.mounted.applications session []
