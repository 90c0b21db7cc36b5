-- What showing the next object answers.
use Rattle.std.specs.Prelude.{◌≡◌, ◌≢◌, ◌≤◌, ℕ, List, Option, Some, None, Result, Ok, Err}
use Rattle.disk_model.specs.State.{FileState}
use Rattle.disk_model.specs.Calls.{Known, Rests}
use Rattle.htree_file.specs.Answers.{FileFailed, FilePassed}
use Rattle.hmac_keys.specs.declared.Keys.{Keys}
use Rattle.hmac_keys.specs.KeyTable.{tsk}
use Rattle.crash_core.specs.Opening.{opening_map}
use Rattle.store_model.specs.declared.name.ObjectName.{ObjectName}
use Rattle.dir_records.specs.declared.entry.DirEntry.{DirEntry}
use Rattle.tee_types.specs.declared.reply.Cause.TheVariants.{Fault}
use Rattle.tee_types.specs.declared.reply.Device.TheVariants.{File}
use Rattle.store_commit.specs.declared.fault.MountFault.{MountFault}
use Rattle.store_commit.specs.declared.fault.MountFault.TheVariants.{Failed, NoMemory}
use Rattle.object_calls.specs.declared.shown_object.Shown.{Shown}
use Rattle.object_calls.specs.declared.shown_object.ShownObject.{ShownObject}
use Rattle.object_calls.specs.OpeningEntries.{IsLeastPast, IsNonePast}
use Rattle.object_calls.specs.ShownObjects.{ShowsEntry}

-- reads of that file alone
pub record ReadsOne (old new : ℕ → FileState) (file : ℕ) : Type 0 where
  pub rests : Rests (old file) (new file)
  pub others : (k : ℕ) → k ≢ file → new k ≡ old k

-- the same of files of objects alone
pub record ReadsObject (old new : ℕ → FileState) (file : ℕ) : Type 0 where
  pub rests : Rests (old file) (new file)
  pub others : (k : ℕ) → 1 ≤ k → k ≢ file → new k ≡ old k

-- a call of the file failed, or memory ran out
abbrev pub ShowFailed : (old new : FileState) → (file : ℕ) → MountFault → Type 0
ShowFailed old new file (Failed (Fault (File n) count)) = (n ≡ file) × FileFailed old new count
ShowFailed old new file NoMemory = Unit {0}
ShowFailed old new file fault = ⊥

-- what showing the object of an entry answers
abbrev pub ShowAnswer : (tsk : List ℕ) → (old new : FileState) → DirEntry → Result ShownObject MountFault → Type 0
ShowAnswer key old new e (Ok object) = ShowsEntry key old new e object × FilePassed old new
ShowAnswer key old new e (Err fault) = ShowFailed old new e.file fault

-- the object of the entry of the least name above is shown
pub record IsShown (entries : List (Option DirEntry)) (after : Option ObjectName) (storage_key : List ℕ) (old new : ℕ → FileState) (shown : Shown) : Type 0 where
  pub entry : DirEntry
  pub next : IsLeastPast entries after entry
  pub app : shown.app ≡ entry.app
  pub id : shown.id ≡ entry.id
  pub size : shown.size ≡ entry.size
  pub object : ShowsEntry (tsk storage_key entry.app) (old entry.file) (new entry.file) entry shown.object
  pub passed : FilePassed (old entry.file) (new entry.file)
  pub reads : ReadsOne old new entry.file

-- it could not be
pub record IsNotShown (entries : List (Option DirEntry)) (after : Option ObjectName) (old new : ℕ → FileState) (fault : MountFault) : Type 0 where
  pub entry : DirEntry
  pub next : IsLeastPast entries after entry
  pub failed : ShowFailed (old entry.file) (new entry.file) entry.file fault
  pub reads : ReadsOne old new entry.file

abbrev pub NextAnswer : List (Option DirEntry) → Option ObjectName → (storage_key : List ℕ) → (old new : ℕ → FileState) → Result (Option Shown) MountFault → Type 0
NextAnswer entries after key old new (Ok (Some shown)) = IsShown entries after key old new shown
NextAnswer entries after key old new (Ok None) = IsNonePast entries after × ((file : ℕ) → new file ≡ old file)
NextAnswer entries after key old new (Err fault) = IsNotShown entries after old new fault

-- The entries name the same objects as before, where the files can be followed.
abbrev pub MapStays : List (Option DirEntry) → (old new : ℕ → FileState) → Type 0
MapStays entries old new = ((file : ℕ) → Known (old file) (new file)) → (keys : Keys) → opening_map keys new entries ≡ opening_map keys old entries
