-- The open handles of all sessions beside the table of them.
use Rattle.std.specs.Prelude.{◌≡◌, ℕ, ◌<◌, List, [], length, Option, Some, slice_index_or}
use Rattle.enumerators.specs.Places.{IsNumbered}
use Rattle.dir_records.specs.declared.entry.DirEntry.{DirEntry}
use Rattle.open_table.specs.declared.table.OpenRecord.{OpenRecord}
use Rattle.open_table.specs.Table.{TableState, record_at}
use Rattle.store_model.specs.declared.name.ObjectName.{ObjectName}
use Rattle.store_model.specs.declared.session.Handle.{Handle}
use Rattle.store_model.specs.Machine.{Session, handle_at, new_session}
use Rattle.core_laws.specs.EntryChanges.{IsEntryOf}
use Rattle.call_rules.specs.Numbers.{HasNumbers}

-- The name's entry has that file.
pub record HasFile (entries : List (Option DirEntry)) (name : ObjectName) (file : ℕ) : Type 0 where
  pub index : ℕ
  pub named : IsEntryOf entries index name
  pub is : file ≡ named.entry.file

-- The record is that of the session's live handle of that number: it has its rights, and the file of its object's entry.
pub record IsRecordOf (entries : List (Option DirEntry)) (i number : ℕ) (h : Handle) (r : OpenRecord) : Type 0 where
  pub session : r.session ≡ i
  pub handle : r.handle ≡ number
  pub flags : r.flags ≡ h.flags
  pub file : HasFile entries h.name r.file

-- Each live handle has a record in the table, each record is that of a live handle, and no handle has two.
pub record AreOpen (entries : List (Option DirEntry)) (table : TableState) (sessions : List Session) : Type 0 where
  pub each : (i number : ℕ) (h : Handle) → i < length sessions → handle_at (slice_index_or sessions i (new_session [])) number ≡ Some h
      → (key : ℕ) × (r : OpenRecord) × (record_at table key ≡ Some r) × IsRecordOf entries i number h r
  pub back : (key : ℕ) (r : OpenRecord) → record_at table key ≡ Some r
      → (r.session < length sessions)
      × ((h : Handle) × (handle_at (slice_index_or sessions r.session (new_session [])) r.handle ≡ Some h) × IsRecordOf entries r.session r.handle h r)
  pub single : (a b : ℕ) (r q : OpenRecord) → record_at table a ≡ Some r → record_at table b ≡ Some q → r.session ≡ q.session → r.handle ≡ q.handle
      → a ≡ b
  -- the keys of the records rise, each below the bound, and so do the numbers of each session's handles
  pub bound : ℕ
  pub keyed : IsNumbered 0 table.records bound
  pub numbered : (i : ℕ) → HasNumbers (slice_index_or sessions i (new_session []))
