-- What a contract sees of a store that is mounted.
use Rattle.std.specs.Prelude.{◌≡◌, ℕ, List, [], length, Option, Some, None}
use Rattle.disk_model.specs.State.{FileState, pending}
use Rattle.node_image.specs.References.{current_format}
use Rattle.tee_types.specs.Limits.{last_file}
use Rattle.tee_types.specs.Identifier.{IsIdentifier}
use Rattle.atomic_table.specs.Seated.{TableId}
use Rattle.hmac_keys.specs.declared.Keys.{Keys}
use Rattle.hmac_keys.specs.KeyTable.{dir_tsk, rpmb_key, ssk}
use Rattle.dir_records.specs.declared.entry.DirEntry.{DirEntry}
use Rattle.crash_core.specs.EntryLists.{AreCurrent, entry_at}
use Rattle.store_commit.specs.EntryForms.{AreEntriesOf}
use Rattle.store_commit.specs.Gates.{GateValue}
use Rattle.store_commit.specs.Holds.{file_held}
use Rattle.object_calls.specs.OpeningFiles.{numbered_files, object_files}

pub record OpeningValue (F R : Type 0) : Type 0 where
  -- the directory in its file, and the card
  pub gate : GateValue F R
  -- the files of objects, file 1 first
  pub files : List F
  -- the file of an old directory, which is not called
  pub spare : F
  -- the key that the keys of the directory and of the applications come from (SSK)
  pub storage_key : List ℕ
  -- the table of the phase's history
  pub table : TableId
  -- the applications of the sessions, by their numbers
  pub applications : List (List ℕ)

-- all files, by their numbers
abbrev pub bench_files : {F R : Type 0} → (F → FileState) → OpeningValue F R → ℕ → FileState
bench_files state o = numbered_files state o.spare o.gate.dir.file o.files

-- the entries of the directory
abbrev pub entries_in : {F R : Type 0} → OpeningValue F R → List (Option DirEntry)
entries_in o = o.gate.dir.dir.entries

-- the keys that the storage key and the card's key come from
pub record IsKeyed {F R : Type 0} (keys : Keys) (o : OpeningValue F R) : Type 0 where
  pub storage : o.storage_key ≡ ssk keys.huk keys.chip
  pub card : o.gate.host.key ≡ rpmb_key keys.huk

-- each entry has an identifier of an object
abbrev pub AreIdentified : List (Option DirEntry) → Type 0
AreIdentified entries = (index : ℕ) (e : DirEntry) → entry_at entries index ≡ Some e → IsIdentifier e.id

-- What holds of a store that is mounted and that no call was served from: no commit is in doubt, no handle is open, no file is held; and
-- nothing is pending on the directory's file, nor on a file that an entry names.
pub record IsOpening {F R : Type 0} (state : F → FileState) (gate : GateValue F R) (files : List F) (storage_key : List ℕ) : Type 0 where
  pub idle : gate.doubt ≡ None
  pub unopened : gate.open_handles.records ≡ []
  pub unheld : (session : ℕ) → file_held gate.holds session ≡ None
  pub whole : length files ≡ last_file
  pub keyed : gate.dir.dir.tsk ≡ dir_tsk storage_key
  pub current : gate.dir.dir.root.format ≡ current_format
  pub entries : AreEntriesOf gate.dir.dir.entries
  pub entries_current : AreCurrent gate.dir.dir.entries
  pub identified : AreIdentified gate.dir.dir.entries
  pub settled : pending (state gate.dir.file) ≡ []
  pub synced : (index : ℕ) (e : DirEntry) → entry_at gate.dir.dir.entries index ≡ Some e → pending (object_files state files e.file) ≡ []
