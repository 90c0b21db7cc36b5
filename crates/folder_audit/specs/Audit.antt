-- The audit of a folder.
use Rattle.std.specs.Prelude.{◌≡◌, ◌≢◌, ◌⊎◌, ℕ, List, [], ◌++◌, insert, Option, Result, Ok, Err}
use Rattle.std.specs.List.{AllZip}
use Rattle.disk_model.specs.State.{FileState}
use Rattle.disk_model.specs.Calls.{Rests}
use Rattle.htree_file.specs.Answers.{FileFailed, FilePassed}
use Rattle.htree_file.specs.Opening.{Loaded}
use Rattle.htree_file.specs.Standing.{Told}
use Rattle.hmac_keys.specs.declared.Keys.{Keys}
use Rattle.tee_types.specs.Limits.{directory_file, file_count}
use Rattle.dir_records.specs.declared.entry.DirEntry.{DirEntry}
use Rattle.crash_core.specs.EntryLists.{AreCurrent}
use Rattle.dir_index.specs.Index.{IndexEntries, IndexEntry}
use Rattle.folder_export.specs.declared.fault.FileFault.{FileFault}
use Rattle.folder_export.specs.declared.fault.FilePlace.TheVariants.{Folder}
use Rattle.folder_export.specs.Folders.{states_of}
use Rattle.folder_audit.specs.declared.fault.AuditFault.{AuditFault}
use Rattle.folder_audit.specs.declared.fault.AuditFault.TheVariants.{Failed, NoMemory, Refused}
use Rattle.folder_audit.specs.Lines.{AuditStep, steps_text}
use Rattle.folder_audit.specs.Findings.{IsAuditLine, IsMountedDirectory, TellsObject}
use Rattle.folder_audit.specs.Order.{AreNamesOf, IsOfName}
use Rattle.folder_audit.specs.Reading.{IsBlockOf, IsStoreRefused, OfRoot, ReadsDirectory}

-- what is known of each file of a folder, and `none` where there is no file
abbrev pub FolderStates : Type 0
FolderStates = (none : FileState) → (file : ℕ) → FileState

abbrev pub folder_states : {F : Type 0} → (F → FileState) → List F → FolderStates
folder_states state files none file = states_of none state files file

-- the files of a folder without the directory's, and that
abbrev pub with_directory : {F : Type 0} → List F → F → List F
with_directory files dir = insert files directory_file dir

-- the files are only read
abbrev pub OnlyReads : (old new : FolderStates) → Type 0
OnlyReads old new = (none : FileState) (file : ℕ) → Rests (old none file) (new none file)

-- no call of a file failed
abbrev pub HavePassed : (old new : FolderStates) → Type 0
HavePassed old new = (none : FileState) (file : ℕ) → FilePassed (old none file) (new none file)

-- A call of that file failed: its count rose, and is carried; no call of another failed.
pub record FailsAt (old new : FolderStates) (fault : FileFault) : Type 0 where
  pub number : ℕ
  pub place : fault.place ≡ Folder number
  pub failed : (none : FileState) → FileFailed (old none number) (new none number) fault.count
  pub others : (none : FileState) (file : ℕ) → file ≢ number → FilePassed (old none file) (new none file)

-- The line of a name is of its entry, and exact where that holds of what the directory's file reads as.
pub record IsStep (keys : Keys) (block : List ℕ) (entries : List (Option DirEntry)) (Known : List ℕ → Type 0) (old new : FolderStates) (name : IndexEntry) (step : AuditStep) : Type 0 where
  pub of_name : IsOfName entries name step.entry
  pub line : IsAuditLine keys block step.entry step.line
  pub exact : (none : FileState) → Told (old none directory_file) (new none directory_file) → Told (old none (step.entry).file) (new none (step.entry).file)
      → Known (new none directory_file).reads → TellsObject keys block step.entry (new none (step.entry).file).reads step.line

-- The lines of the first names were put behind the text. They are exact where the directory is the one that this tree has.
pub record PutsLines (keys : Keys) (block : List ℕ) (tree : Loaded) (entries : List (Option DirEntry)) (old new : FolderStates) (names : IndexEntries) (before after : List ℕ) : Type 0 where
  pub steps : List AuditStep
  pub are : AllZip (IsStep keys block entries (λ reads. IsMountedDirectory keys block reads tree entries) old new) names steps
  pub text : after ≡ before ++ steps_text steps

-- all of them; or some, where the audit ended
abbrev pub ListAnswer : Keys → (block : List ℕ) → Loaded → List (Option DirEntry) → (old new : FolderStates) → (names : IndexEntries) → (before after : List ℕ) → {A : Type 0} → Result A AuditFault → Type 0
ListAnswer keys block tree entries old new names before after (Ok done) = PutsLines keys block tree entries old new names before after × HavePassed old new
ListAnswer keys block tree entries old new names before after (Err (Failed fault)) =
    ((done left : IndexEntries) × (names ≡ done ++ left) × PutsLines keys block tree entries old new done before after) × FailsAt old new fault
ListAnswer keys block tree entries old new names before after (Err NoMemory) =
    (done left : IndexEntries) × (names ≡ done ++ left) × PutsLines keys block tree entries old new done before after
ListAnswer keys block tree entries old new names before after (Err (Refused fault)) = ⊥

-- The directory that the block names was read, its entries are of the current format, and these are the lines of the first names: each is
-- of its name's entry, and exact where the files of the directory and of the object can be followed and tell their bytes.
pub record ListsObjects (keys : Keys) (block : List ℕ) (old new : FolderStates) (lines : List ℕ) (left : IndexEntries) : Type 0 where
  pub entries : List (Option DirEntry)
  pub directory : (none : FileState) → OfRoot block (λ root. ReadsDirectory keys root (old none directory_file) (new none directory_file) entries)
  pub current : AreCurrent entries
  pub names : IndexEntries
  pub are : AreNamesOf entries (names ++ left)
  pub steps : List AuditStep
  pub steps_are : AllZip (IsStep keys block entries (λ reads. Unit {0}) old new) names steps
  pub lines_are : lines ≡ steps_text steps

-- the lines of the first objects, or none where the audit ended before
abbrev pub BeginsLines : Keys → (block : List ℕ) → (old new : FolderStates) → (lines : List ℕ) → Type 0
BeginsLines keys block old new lines = (lines ≡ []) ⊎ ((left : IndexEntries) × ListsObjects keys block old new lines left)

-- How an audit ends under a block: each object that the directory names has its line; or the store is refused; or a call of a file failed;
-- or memory ran out.
abbrev pub EndsUnder : Keys → (block : List ℕ) → (old new : FolderStates) → (lines : List ℕ) → {A : Type 0} → Result A AuditFault → Type 0
EndsUnder keys block old new lines (Ok done) = ListsObjects keys block old new lines [] × HavePassed old new
EndsUnder keys block old new lines (Err (Refused fault)) =
    ((none : FileState) → IsStoreRefused keys block (old none directory_file) (new none directory_file) fault) × (lines ≡ []) × HavePassed old new
EndsUnder keys block old new lines (Err (Failed fault)) = BeginsLines keys block old new lines × FailsAt old new fault
EndsUnder keys block old new lines (Err NoMemory) = BeginsLines keys block old new lines

-- The block was read, and this holds of it.
pub record OfBlock (new : FolderStates) (Holds : List ℕ → Type 0) : Type 0 where
  pub block : List ℕ
  pub read : (none : FileState) → IsBlockOf (new none file_count) block
  pub holds : Holds block

-- It was not: the call of its file failed.
abbrev pub StopsAtBlock : (old new : FolderStates) → (lines : List ℕ) → {A : Type 0} → Result A AuditFault → Type 0
StopsAtBlock old new lines (Err (Failed fault)) = (lines ≡ []) × FailsAt old new fault
StopsAtBlock old new lines end = ⊥

-- The audit of a folder: its files are only read.
pub record AuditsFolder (keys : Keys) (old new : FolderStates) (lines : List ℕ) {A : Type 0} (end : Result A AuditFault) : Type 0 where
  pub rests : OnlyReads old new
  pub ends : OfBlock new (λ block. EndsUnder keys block old new lines end) ⊎ StopsAtBlock old new lines end
