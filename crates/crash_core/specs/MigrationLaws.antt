-- Which calls are a migration, and that migrations follow one another.
use Rattle.std.specs.Prelude.{◌≡◌, ◌≢◌, ◌⊎◌, ℕ, List, [], Option, Some, Result, Ok, Err, IsTrue}
use Rattle.disk_model.specs.State.{LeftSince, moment, pending}
use Rattle.disk_model.specs.Calls.{Rests, Syncs}
use Rattle.disk_model.specs.Keeps.{Runs}
use Rattle.node_image.specs.declared.node.RootRef.{RootRef}
use Rattle.hmac_keys.specs.declared.Keys.{Keys}
use Rattle.htree_file.specs.declared.fault.TreeFault.{TreeFault}
use Rattle.htree_file.specs.Making.{Nowhere}
use Rattle.htree_file.specs.Pages.{Opened, opened_of}
use Rattle.dir_records.specs.declared.entry.DirEntry.{DirEntry}
use Rattle.crash_core.specs.MountedObject.{root_of}
use Rattle.crash_core.specs.Directory.{directory_of}
use Rattle.crash_core.specs.CardBlock.{IsReference, directory_at, root_in}
use Rattle.crash_core.specs.DeviceKeys.{directory_key, object_key}
use Rattle.crash_core.specs.EntryLists.{IsUnnamed, entry_at}
use Rattle.crash_core.specs.declared.change.EntryChange.TheVariants.{Put}
use Rattle.crash_core.specs.EntryChanges.{changed}
use Rattle.crash_core.specs.Pictures.{AreAllHonest, AreSound, IsPictureOf, Picture, SameCard, block_zero}
use Rattle.crash_core.specs.Mounting.{mounted_directory}
use Rattle.crash_core.specs.Migration.{DeviceCall, DeviceStates, IsDeviceCall, IsOfFile, KeepsFiles, KeepsMaps, MayBeSealed, Migrates}

-- One migration behind another is one.
abbrev pub MigrationsFollow : Type 0
MigrationsFollow = (keys : Keys) (first mid last : DeviceStates) → Migrates keys first mid → Migrates keys mid last → Migrates keys first last

-- What a crash leaves behind one mounts as something did that a crash might have left before.
abbrev pub MigrationsKeepMaps : Type 0
MigrationsKeepMaps = (keys : Keys) (old new : DeviceStates) → Migrates keys old new → AreAllHonest new.files → KeepsMaps keys old new

-- A call is one if it keeps the maps.
abbrev pub CallsMigrate : Type 0
CallsMigrate = (keys : Keys) (call : DeviceCall) (old new : DeviceStates) → IsDeviceCall call old new → (AreAllHonest new.files → KeepsMaps keys old new) → Migrates keys old new

-- So is a sync, and a call that changes nothing, of any file.
abbrev pub RestsMigrate : Type 0
RestsMigrate =
    (keys : Keys) (file : ℕ) (old new : DeviceStates) → AreSound old.files → IsOfFile file old new → Rests (old.files file) (new.files file) ⊎ Syncs (old.files file) (new.files file)
    → Migrates keys old new

-- So are exchanges with the card that leave what it holds.
abbrev pub ExchangesMigrate : Type 0
ExchangesMigrate = (keys : Keys) (old new : DeviceStates) → KeepsFiles old new → SameCard new.card old.card → Migrates keys old new

-- No mount of a picture reads the file: it is neither that of the directory nor named by an entry.
pub record NoMountReads (keys : Keys) (d : DeviceStates) (file : ℕ) : Type 0 where
  pub directory : (root : RootRef) → root_in (block_zero d.card) ≡ Ok root → file ≢ directory_at root.format
  pub unnamed : (picture : Picture) (entries : List (Option DirEntry)) → IsPictureOf d.files d.card picture → mounted_directory keys picture ≡ Ok entries → IsUnnamed entries file

-- Any calls of such a file are a migration: those that copy a tree into it.
abbrev pub CopiesMigrate : Type 0
CopiesMigrate =
    (keys : Keys) (file : ℕ) (old new : DeviceStates) → AreSound old.files → IsOfFile file old new → (AreAllHonest old.files → NoMountReads keys old file)
    → Runs Nowhere (old.files file) (new.files file) → Migrates keys old new

-- Calls of the directory's file, throughout which the card's reference names the same entries in every image: those that stage a commit.
pub record StagesDirectory (keys : Keys) (old new : DeviceStates) : Type 0 where
  pub root : RootRef
  pub entries : List (Option DirEntry)
  pub names : root_in (block_zero old.card) ≡ Ok root
  pub of : IsOfFile (directory_at root.format) old new
  pub runs : Runs Nowhere (old.files (directory_at root.format)) (new.files (directory_at root.format))
  pub always : IsTrue (new.files (directory_at root.format)).honest → (image : List ℕ)
      → LeftSince (new.files (directory_at root.format)) (moment (old.files (directory_at root.format))) image → directory_of (directory_key keys) image root ≡ Ok entries

-- They are one.
abbrev pub StagesMigrate : Type 0
StagesMigrate = (keys : Keys) (old new : DeviceStates) → AreSound old.files → AreSound new.files → StagesDirectory keys old new → Migrates keys old new

-- both open to the same pages, or neither opens
abbrev pub OpensAlike : Result Opened TreeFault → Result Opened TreeFault → Type 0
OpensAlike (Ok a) (Ok b) = a ≡ b
OpensAlike (Err fault) (Err other) = Unit {0}
OpensAlike (Ok a) (Err fault) = ⊥
OpensAlike (Err fault) (Ok b) = ⊥

-- The card names a directory, which its file reads as, and another reference is ready for the seal: its file is settled.
pub record IsSealable (keys : Keys) (d : DeviceStates) (root next : RootRef) (entries : List (Option DirEntry)) : Type 0 where
  pub names : root_in (block_zero d.card) ≡ Ok root
  pub reads : directory_of (directory_key keys) (d.files (directory_at root.format)).reads root ≡ Ok entries
  pub form : IsReference next
  pub settled : pending (d.files (directory_at next.format)) ≡ []

-- The other reference opens as the named one does: so it does behind a copy of the directory.
pub record IsDirectoryCopied (keys : Keys) (d : DeviceStates) (root next : RootRef) : Type 0 where
  pub entries : List (Option DirEntry)
  pub ready : IsSealable keys d root next entries
  pub alike : OpensAlike (opened_of (directory_key keys) (d.files (directory_at root.format)).reads root) (opened_of (directory_key keys) (d.files (directory_at next.format)).reads next)

-- The card's write that names it is a migration, also where it was lost.
abbrev pub DirectoriesMigrate : Type 0
DirectoriesMigrate =
    (keys : Keys) (root next : RootRef) (old new : DeviceStates) → AreSound old.files → KeepsFiles old new → MayBeSealed old.card new.card next
    → (AreAllHonest old.files → IsDirectoryCopied keys old root next) → Migrates keys old new

-- the entry of an object that stands in another file
abbrev pub moved_entry : DirEntry → (file format : ℕ) → DirEntry
moved_entry e file format = record e { file = file; format = format }

-- The other reference names the entries with one moved, whose file is settled and opens as the old one does.
pub record IsEntryCopied (keys : Keys) (d : DeviceStates) (root next : RootRef) (index file format : ℕ) : Type 0 where
  pub entries : List (Option DirEntry)
  pub ready : IsSealable keys d root next entries
  pub entry : DirEntry
  pub at : entry_at entries index ≡ Some entry
  pub holds : directory_of (directory_key keys) (d.files (directory_at next.format)).reads next ≡ Ok (changed entries (Put index (moved_entry entry file format)))
  pub settled : pending (d.files file) ≡ []
  pub alike : OpensAlike (opened_of (object_key keys entry.app) (d.files entry.file).reads (root_of entry))
      (opened_of (object_key keys entry.app) (d.files file).reads (root_of (moved_entry entry file format)))

-- The card's write that names it is a migration, also where it was lost.
abbrev pub EntriesMigrate : Type 0
EntriesMigrate =
    (keys : Keys) (root next : RootRef) (index file format : ℕ) (old new : DeviceStates) → AreSound old.files → KeepsFiles old new
    → MayBeSealed old.card new.card next → (AreAllHonest old.files → IsEntryCopied keys old root next index file format) → Migrates keys old new
