-- What reading and certifying one object answers.
use Rattle.std.specs.Prelude.{◌≡◌, ◌≢◌, ◌⊎◌, ℕ, ◌<◌, ◌≤◌, List, [], true, is_none, IsTrue, Result, Ok, Err}
use Rattle.disk_model.specs.State.{FileState}
use Rattle.htree_file.specs.declared.fault.TreeFault.{TreeFault}
use Rattle.htree_file.specs.declared.fault.TreeFault.TheVariants.{Failed as FileFault, NoMemory as NoRoom}
use Rattle.htree_file.specs.Answers.{FileFailed, FilePassed}
use Rattle.htree_file.specs.Opening.{Loaded}
use Rattle.htree_file.specs.Pages.{page_in}
use Rattle.htree_file.specs.Standing.{Told}
use Rattle.hmac_keys.specs.declared.Keys.{Keys}
use Rattle.node_image.specs.declared.node.RootRef.{RootRef}
use Rattle.tee_types.specs.Limits.{directory_file}
use Rattle.tree_paths.specs.declared.node_set.NodeSet.{NodeSet}
use Rattle.tree_paths.specs.Paths.{holds}
use Rattle.dir_records.specs.declared.entry.DirEntry.{DirEntry}
use Rattle.crash_core.specs.declared.fault.DirFault.{DirFault}
use Rattle.crash_core.specs.declared.fault.DirFault.TheVariants.{Tree as TreeRefusal}
use Rattle.crash_core.specs.DeviceKeys.{object_key}
use Rattle.crash_core.specs.Entries.{name_of}
use Rattle.crash_core.specs.MountedObject.{mounted_object}
use Rattle.script_text.specs.BadBlocks.{is_some_of, members_of}
use Rattle.store_model.specs.Object.{Contents, Sound}
use Rattle.object_file.specs.declared.fault.ObjectFault.{ObjectFault}
use Rattle.object_file.specs.declared.fault.ObjectFault.TheVariants.{Tree}
use Rattle.folder_export.specs.declared.fault.FilePlace.TheVariants.{Folder}
use Rattle.store_commit.specs.declared.fault.MountFault.TheVariants.{Directory, OldFormat}
use Rattle.image_audit.specs.declared.fault.CertFault.{CertFault}
use Rattle.image_audit.specs.declared.fault.CertFault.TheVariants.{NoMemory as NoRoomToCheck}
use Rattle.image_audit.specs.declared.fault.Listed.{Listed}
use Rattle.image_audit.specs.Certificate.{name_listed}
use Rattle.image_audit.specs.Checking.{certificate_of}
use Rattle.folder_audit.specs.declared.fault.AuditFault.{AuditFault}
use Rattle.folder_audit.specs.declared.fault.AuditFault.TheVariants.{Failed, NoMemory, Refused}
use Rattle.folder_audit.specs.declared.finding.Finding.{Finding}
use Rattle.folder_audit.specs.declared.finding.Finding.TheVariants.{Bad, Certified as CertifiedFinding, Damaged}
use Rattle.folder_audit.specs.Findings.{IsAuditLine, IsExact}
use Rattle.folder_audit.specs.Lines.{Certified, line_found}
use Rattle.folder_audit.specs.Reading.{HasOldEntry, IsDirectoryRefused}

-- a call of the folder's file of that number failed
abbrev pub failed_at : (file count : ℕ) → AuditFault
failed_at file count = Failed (record { place = Folder file; count = count })

-- what a failure of the file is, or want of memory
abbrev pub tree_end : (file : ℕ) → TreeFault → AuditFault
tree_end file (FileFault count) = failed_at file count
tree_end file fault = NoMemory

-- what a fault in loading a tree is
abbrev pub tree_answer : (file : ℕ) → TreeFault → Result Finding AuditFault
tree_answer file (FileFault count) = Err (failed_at file count)
tree_answer file NoRoom = Err NoMemory
tree_answer file fault = Ok Damaged

abbrev pub object_answer : (file : ℕ) → ObjectFault → Result Finding AuditFault
object_answer file (Tree fault) = tree_answer file fault
object_answer file fault = Ok Damaged

-- what a fault in loading the directory is
abbrev pub directory_answer : DirFault → AuditFault
directory_answer (TreeRefusal (FileFault count)) = failed_at directory_file count
directory_answer (TreeRefusal NoRoom) = NoMemory
directory_answer fault = Refused (Directory fault)

-- Why the directory is not read, of its file.
abbrev pub DirectoryStops : Keys → (root : RootRef) → (old new : FileState) → AuditFault → Type 0
DirectoryStops keys root old new (Refused (Directory fault)) = IsDirectoryRefused keys root old new fault × FilePassed old new
DirectoryStops keys root old new (Refused (OldFormat file)) = HasOldEntry keys root old new file × FilePassed old new
DirectoryStops keys root old new (Refused fault) = ⊥
DirectoryStops keys root old new (Failed fault) = (fault.place ≡ Folder directory_file) × FileFailed old new fault.count
DirectoryStops keys root old new NoMemory = Unit {0}

-- block k was read, and is noted where it is bad
pub record NotesBlock (key : List ℕ) (tree : Loaded) (old new : FileState) (k : ℕ) (was now : NodeSet) : Type 0 where
  pub told : Told old new → holds now k ≡ is_none (page_in new.reads key tree k)
  pub others : (n : ℕ) → n ≢ k → holds now n ≡ holds was n

-- of the blocks from 1 on below a number those that are bad are noted
pub record FindsBad (key : List ℕ) (tree : Loaded) (old new : FileState) (count : ℕ) (bad : NodeSet) : Type 0 where
  pub told : Told old new → (k : ℕ) → 1 ≤ k → k < count → holds bad k ≡ is_none (page_in new.reads key tree k)
  pub others : (n : ℕ) → holds bad n ≡ true → (1 ≤ n) × (n < count)

-- The count of the directory's file rose and is carried, or that of the object's; the other's did not.
abbrev pub CallFails : (dir_old dir_new old new : FileState) → (file : ℕ) → AuditFault → Type 0
CallFails dir_old dir_new old new file (Failed fault) =
    ((fault.place ≡ Folder directory_file) × FileFailed dir_old dir_new fault.count × FilePassed old new)
    ⊎ ((fault.place ≡ Folder file) × FilePassed dir_old dir_new × FileFailed old new fault.count)
CallFails dir_old dir_new old new file NoMemory = Unit {0}
CallFails dir_old dir_new old new file (Refused fault) = ⊥

-- A certificate was checked: what is told of it holds, and it is told if it is accepted and speaks of the entry's object.
pub record IsChecked (keys : Keys) (block : List ℕ) (e : DirEntry) (certificate : List ℕ) (finding : Finding) : Type 0 where
  pub line : IsAuditLine keys block e (line_found finding)
  pub told : (l : Listed) → certificate_of keys block certificate ≡ Ok l → name_listed l ≡ name_of e → line_found finding ≡ Certified certificate

-- What is told of an object whose certificate is refused: bad blocks, or that it is damaged.
abbrev pub IsRefusal : Finding → Type 0
IsRefusal (CertifiedFinding certificate) = ⊥
IsRefusal (Bad numbers) = IsTrue (is_some_of (members_of numbers))
IsRefusal Damaged = Unit {0}

abbrev pub RefusedAs : CertFault → {E : Type 0} → Result Finding E → Type 0
RefusedAs NoRoomToCheck (Ok finding) = ⊥
RefusedAs NoRoomToCheck (Err error) = Unit {0}
RefusedAs fault (Ok finding) = IsRefusal finding
RefusedAs fault (Err error) = ⊥

-- the entry's object is sound, and has no bad block
abbrev pub IsWhole : Keys → DirEntry → (reads : List ℕ) → Type 0
IsWhole keys e reads = (c : Contents) × (mounted_object (object_key keys e.app) reads e ≡ Sound c) × (c.bad ≡ [])

-- What is found of the object of an entry, where this is a tree of the directory; it is exact where that holds of what the object's file
-- reads as.
pub record IsFound (keys : Keys) (block : List ℕ) (tree : Loaded) (index : ℕ) (e : DirEntry) (Known : List ℕ → Type 0) (dir_old dir_new old new : FileState) (finding : Finding) : Type 0 where
  pub line : IsAuditLine keys block e (line_found finding)
  pub exact : Known new.reads → IsExact keys block tree index e dir_old dir_new old new (line_found finding)
  pub dir_passed : FilePassed dir_old dir_new
  pub passed : FilePassed old new

abbrev pub FindsIf : Keys → (block : List ℕ) → (tree : Loaded) → (index : ℕ) → DirEntry → (Known : List ℕ → Type 0) → (dir_old dir_new old new : FileState) → Result Finding AuditFault → Type 0
FindsIf keys block tree index e Known dir_old dir_new old new (Ok finding) = IsFound keys block tree index e Known dir_old dir_new old new finding
FindsIf keys block tree index e Known dir_old dir_new old new (Err fault) = CallFails dir_old dir_new old new e.file fault

-- of any object, and of one that is whole
abbrev pub AuditAnswer : Keys → (block : List ℕ) → (tree : Loaded) → (index : ℕ) → DirEntry → (dir_old dir_new old new : FileState) → Result Finding AuditFault → Type 0
AuditAnswer keys block tree index e dir_old dir_new old new result = FindsIf keys block tree index e (λ reads. Unit {0}) dir_old dir_new old new result

abbrev pub CertifyAnswer : Keys → (block : List ℕ) → (tree : Loaded) → (index : ℕ) → DirEntry → (dir_old dir_new old new : FileState) → Result Finding AuditFault → Type 0
CertifyAnswer keys block tree index e dir_old dir_new old new result = FindsIf keys block tree index e (IsWhole keys e) dir_old dir_new old new result
