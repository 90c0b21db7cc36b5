-- What was read of a folder before its objects: the card's block, and the directory.
use Rattle.std.specs.Prelude.{◌≡◌, ◌⊎◌, ℕ, List, Option, Some, Ok, Err, IsTrue}
use Rattle.disk_model.specs.State.{FileState}
use Rattle.node_image.specs.declared.node.RootRef.{RootRef}
use Rattle.node_image.specs.References.{current_format}
use Rattle.node_image.specs.Selection.{bytes_at}
use Rattle.htree_file.specs.Opening.{IsVerified, Loaded}
use Rattle.htree_file.specs.Standing.{Told}
use Rattle.hmac_keys.specs.declared.Keys.{Keys}
use Rattle.tee_types.specs.Limits.{old_directory_file}
use Rattle.dir_records.specs.declared.entry.DirEntry.{DirEntry}
use Rattle.crash_core.specs.declared.fault.DirFault.{DirFault}
use Rattle.crash_core.specs.CardBlock.{root_in}
use Rattle.crash_core.specs.DeviceKeys.{directory_key}
use Rattle.crash_core.specs.Directory.{directory_of}
use Rattle.crash_core.specs.OldFormats.{first_old}
use Rattle.crash_core.specs.Refusal.{CardBlock as BadBlock, NoStore as BlankBlock}
use Rattle.dir_file.specs.EntryForms.{AreEntriesOf}
use Rattle.dir_file.specs.Loading.{IsOutsideDir, IsReadDirectory}
use Rattle.dir_file.specs.Refusals.{DirDiffers}
use Rattle.store_commit.specs.Blocks.{HasOldRoot}
use Rattle.store_commit.specs.declared.fault.MountFault.{MountFault}
use Rattle.store_commit.specs.declared.fault.MountFault.TheVariants.{CardBlock, Directory, NoStore, OldFormat}

-- the block is the first 256 bytes that the file reads as, where it tells them, with zero behind its end
abbrev pub IsBlockOf : FileState → (block : List ℕ) → Type 0
IsBlockOf file block = IsTrue file.tells → block ≡ bytes_at file.reads 0 256

-- The block names a directory of the current format, and this holds of its reference.
pub record OfRoot (block : List ℕ) (Holds : RootRef → Type 0) : Type 0 where
  pub root : RootRef
  pub named : root_in block ≡ Ok root
  pub current : root.format ≡ current_format
  pub holds : Holds root

-- The directory of a reference was read, and has these entries: of any file, pages that a tree under the reference seals have them; where
-- the file can be followed, it reads so.
pub record ReadsDirectory (keys : Keys) (root : RootRef) (old new : FileState) (entries : List (Option DirEntry)) : Type 0 where
  pub tree : Loaded
  pub verified : IsVerified root tree
  pub sealed : IsReadDirectory (directory_key keys) tree (Ok entries)
  pub told : Told old new → directory_of (directory_key keys) new.reads root ≡ Ok entries
  pub are : AreEntriesOf entries

-- Of its entries the first that names a file of the old format names this one.
pub record HasOldEntry (keys : Keys) (root : RootRef) (old new : FileState) (file : ℕ) : Type 0 where
  pub entries : List (Option DirEntry)
  pub read : ReadsDirectory keys root old new entries
  pub first : first_old entries ≡ Some file

-- The directory is refused, as a mount refuses it: exactly where its file can be followed, and of any file by what differs.
pub record IsDirectoryRefused (keys : Keys) (root : RootRef) (old new : FileState) (fault : DirFault) : Type 0 where
  pub inside : IsOutsideDir fault → ⊥
  pub told : Told old new → directory_of (directory_key keys) new.reads root ≡ Err fault
  pub differs : DirDiffers (directory_key keys) new root fault

-- Why a store is refused, by the block and the directory's file.
abbrev pub IsStoreRefused : Keys → (block : List ℕ) → (old new : FileState) → MountFault → Type 0
IsStoreRefused keys block old new NoStore = root_in block ≡ Err BlankBlock
IsStoreRefused keys block old new (CardBlock offset) = root_in block ≡ Err (BadBlock offset)
IsStoreRefused keys block old new (OldFormat file) = ((file ≡ old_directory_file) × HasOldRoot block) ⊎ OfRoot block (λ root. HasOldEntry keys root old new file)
IsStoreRefused keys block old new (Directory fault) = OfRoot block (λ root. IsDirectoryRefused keys root old new fault)
IsStoreRefused keys block old new fault = ⊥
