-- The change of the entries that the commit of a call makes, in the words of the directory alone.
use Rattle.std.specs.Prelude.{◌≡◌, ◌<◌, ℕ, false, List, [], Option, Some, None, length, slice_index_or}
use Rattle.std.specs.Ordering.{is_eq}
use Rattle.hmac_keys.specs.declared.Keys.{Keys}
use Rattle.tee_types.specs.declared.call.Call.{Call}
use Rattle.tee_types.specs.declared.call.Call.TheVariants.{Create, Delete, Rename, Truncate, Write}
use Rattle.store_model.specs.declared.name.ObjectName.{ObjectName}
use Rattle.store_model.specs.Name.{name_cmp}
use Rattle.store_model.specs.Record.{Tag}
use Rattle.dir_records.specs.declared.entry.DirEntry.{DirEntry}
use Rattle.history_seats.specs.Records.{Version}
use Rattle.crash_core.specs.Entries.{name_of}
use Rattle.crash_core.specs.EntryLists.{IsUnnamed, entry_at}
use Rattle.crash_core.specs.declared.change.EntryChange.{EntryChange}
use Rattle.crash_core.specs.declared.change.EntryChange.TheVariants.{Clear, Put}
use Rattle.crash_core.specs.EntryChanges.{IsEntryOf, IsNewEntry, IsNextEntry, changed, index_of}
use Rattle.crash_core.specs.DirectoryLaws.{AreEntries}
use Rattle.core_laws.specs.GateParts.{IsVersionOf}
use Rattle.core_laws.specs.Listed.{IsTagOfChange}
use Rattle.core_laws.specs.Decodings.{IsReal}
use Rattle.core_laws.specs.Stores.{Store}

-- no entry has the name
abbrev pub LacksName : List (Option DirEntry) → ObjectName → Type 0
LacksName entries name = (index : ℕ) (e : DirEntry) → entry_at entries index ≡ Some e → is_eq (name_cmp name (name_of e)) ≡ false

-- The entry of a new object: in its file there is no other.
pub record IsCreatedEntry (entries : List (Option DirEntry)) (counter index : ℕ) (e : DirEntry) (name : ObjectName) : Type 0 where
  pub entry : IsNewEntry entries counter index e name
  pub fresh : IsUnnamed entries e.file

-- The entry of a renamed object: in its own place, with a name that no entry had.
pub record IsRenamedEntry (entries : List (Option DirEntry)) (index : ℕ) (e : DirEntry) (new : ObjectName) : Type 0 where
  pub old : ObjectName
  pub next : IsNextEntry entries index e old new
  pub free : LacksName entries new

-- By a call of that application: a create puts a new entry, a write and a truncate put their object's own with its name, a rename with
-- another, and a delete clears it.
abbrev pub IsCallChange : (application : List ℕ) → Call → List (Option DirEntry) → (counter : ℕ) → EntryChange → Type 0
IsCallChange application (Create id flags attributes bytes) entries counter (Put index e) = IsCreatedEntry entries counter index e (record { app = application; id = id })
IsCallChange application (Write handle bytes) entries counter (Put index e) = IsNextEntry entries index e (name_of e) (name_of e)
IsCallChange application (Truncate handle size) entries counter (Put index e) = IsNextEntry entries index e (name_of e) (name_of e)
IsCallChange application (Rename handle id) entries counter (Put index e) = IsRenamedEntry entries index e (record { app = application; id = id })
IsCallChange application (Delete handle) entries counter (Clear index) = (name : ObjectName) × IsEntryOf entries index name
IsCallChange application _ entries counter _ = ⊥

-- what the change leaves under its tag: the version of the entry that it puts, or none
abbrev pub LeavesVersion : Keys → EntryChange → Option Version → Type 0
LeavesVersion keys (Put index e) left = (v : Version) × (left ≡ Some v) × IsVersionOf e v × IsReal keys v
LeavesVersion keys (Clear index) left = left ≡ None

-- The commit of a session's call changes the entries so, under that tag, and leaves that version.
pub record IsEntryCommit (store : Store) (entries : List (Option DirEntry)) (counter session : ℕ) (call : Call) (change : EntryChange) (tag : Tag Version) (left : Option Version) : Type 0 where
  pub makes : IsCallChange (slice_index_or store.mounted.applications session []) call entries counter change
  pub place : index_of change < length entries
  pub tagged : IsTagOfChange entries change tag
  pub leaves : LeavesVersion store.keys change left
  pub before : AreEntries entries
  pub after : AreEntries (changed entries change)
