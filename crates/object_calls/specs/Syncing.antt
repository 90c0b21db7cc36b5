-- What mounting does with the files of objects: it syncs those that the directory names.
use Rattle.std.specs.Prelude.{◌≡◌, ◌≢◌, ◌<◌, ◌≤◌, ℕ, List, [], Option, Some, Result, Ok, Err}
use Rattle.disk_model.specs.State.{FileState, pending}
use Rattle.disk_model.specs.Calls.{Known, Rests, Syncs}
use Rattle.disk_model.specs.Keeps.{Anywhere, Keeps}
use Rattle.htree_file.specs.Answers.{FileFailed, FilePassed}
use Rattle.tee_types.specs.Limits.{directory_file, last_file}
use Rattle.dir_records.specs.declared.entry.DirEntry.{DirEntry}
use Rattle.crash_core.specs.EntryLists.{entry_at}
use Rattle.store_commit.specs.Leaving.{LeavesNoMore}
use Rattle.tee_types.specs.declared.reply.Cause.{Cause}
use Rattle.tee_types.specs.declared.reply.Cause.TheVariants.{Fault}
use Rattle.tee_types.specs.declared.reply.Device.TheVariants.{File}

-- nothing was asked of the file but reads and syncs
pub record IsOnlySynced (old new : FileState) : Type 0 where
  pub keeps : Keeps Anywhere old new
  pub reads : Known old new → new.reads ≡ old.reads
  pub left : LeavesNoMore old new

-- none of the first entries names the file
abbrev pub IsUnnamedBefore : List (Option DirEntry) → (count file : ℕ) → Type 0
IsUnnamedBefore entries count file = (index : ℕ) (e : DirEntry) → index < count → entry_at entries index ≡ Some e → file ≢ e.file

-- Each file that one of the first entries names was synced, and nothing was asked of the others.
pub record SyncsNamed (entries : List (Option DirEntry)) (count : ℕ) (old new : ℕ → FileState) : Type 0 where
  pub each : (file : ℕ) → file ≢ directory_file → IsOnlySynced (old file) (new file)
  pub passed : (file : ℕ) → file ≢ directory_file → FilePassed (old file) (new file)
  pub untouched : (file : ℕ) → file ≢ directory_file → IsUnnamedBefore entries count file → new file ≡ old file
  pub settled : (index : ℕ) (e : DirEntry) → index < count → entry_at entries index ≡ Some e → pending (new e.file) ≡ []

-- the sync of a file failed: that file counted a fault, which the cause carries
abbrev pub SyncFailed : (old new : ℕ → FileState) → Cause → Type 0
SyncFailed old new (Fault (File n) count) = (1 ≤ n) × (n ≤ last_file) × FileFailed (old n) (new n) count
SyncFailed old new cause = ⊥

-- the syncs ended there
pub record StopsSyncing (old new : ℕ → FileState) (cause : Cause) : Type 0 where
  pub each : (file : ℕ) → file ≢ directory_file → IsOnlySynced (old file) (new file)
  pub failed : SyncFailed old new cause

abbrev pub SyncAnswer : List (Option DirEntry) → (count : ℕ) → (old new : ℕ → FileState) → {A : Type 0} → Result A Cause → Type 0
SyncAnswer entries count old new (Ok done) = SyncsNamed entries count old new
SyncAnswer entries count old new (Err cause) = StopsSyncing old new cause

-- what the sync of one file answers
abbrev pub FileSynced : (old new : FileState) → (file : ℕ) → {A : Type 0} → Result A Cause → Type 0
FileSynced old new file (Ok done) = Syncs old new × FilePassed old new
FileSynced old new file (Err cause) = Rests old new × (count : ℕ) × (cause ≡ Fault (File file) count) × FileFailed old new count

-- the other files are as they were
pub record SyncsOne (file : ℕ) (old new : ℕ → FileState) {A : Type 0} (result : Result A Cause) : Type 0 where
  pub here : FileSynced (old file) (new file) file result
  pub others : (k : ℕ) → k ≢ directory_file → k ≢ file → new k ≡ old k
