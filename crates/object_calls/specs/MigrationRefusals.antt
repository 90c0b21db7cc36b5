-- Why a bench is not migrated to its end.
use Rattle.std.specs.Prelude.{◌≡◌, ◌⊎◌, ◌==◌, ◌+◌, ◌<◌, ℕ, cond, List, Option, Some, Ok, Err, IsTrue}
use Rattle.std.specs.List.{count_by}
use Rattle.disk_model.specs.Faults.{Rose}
use Rattle.disk_model.specs.State.{FileState}
use Rattle.htree_file.specs.Answers.{FileFailed}
use Rattle.htree_file.specs.Standing.{Told}
use Rattle.node_image.specs.declared.node.RootRef.{RootRef}
use Rattle.hmac_keys.specs.declared.Keys.{Keys}
use Rattle.hmac_keys.specs.KeyTable.{rpmb_key}
use Rattle.tee_types.specs.Limits.{IsObjectFile, directory_file}
use Rattle.tee_types.specs.declared.reply.Cause.TheVariants.{Fault}
use Rattle.tee_types.specs.declared.reply.Device.TheVariants.{Dir, File, Card, Entropy}
use Rattle.dir_records.specs.declared.entry.DirEntry.{DirEntry}
use Rattle.rpmb_card.specs.Protocol.{last_counter}
use Rattle.rpmb_card.specs.Card.{CardState}
use Rattle.rpmb_card.specs.Port.{PortState}
use Rattle.rpmb_host.specs.Honest.{HasCard}
use Rattle.crash_core.specs.declared.fault.DirFault.{DirFault}
use Rattle.crash_core.specs.Refusal.{NoStore as BlankBlock, CardBlock as BadBlock, NoDirectory}
use Rattle.crash_core.specs.CardBlock.{directory_at, old_format, root_in}
use Rattle.crash_core.specs.Mounting.{mounted_directory}
use Rattle.crash_core.specs.OldFormats.{old_file}
use Rattle.crash_core.specs.Pictures.{block_zero}
use Rattle.store_commit.specs.declared.fault.MountFault.{MountFault}
use Rattle.store_commit.specs.declared.fault.MountFault.TheVariants.{NoStore, CardBlock, Directory, Frame, CardResult, Failed, Spent, NoMemory}
use Rattle.store_commit.specs.Mounts.{NoCardOf}
use Rattle.object_calls.specs.Migrated.{store_of}
use Rattle.object_calls.specs.MovedEntries.{is_old}

-- The directory that the card names is refused, as its file reads where that can be followed.
pub record IsDirectoryRefused (old new : ℕ → FileState) (keys : Keys) (card : CardState) (fault : DirFault) : Type 0 where
  pub root : RootRef
  pub named : root_in (block_zero card) ≡ Ok root
  pub refused : Told (old (directory_at root.format)) (new (directory_at root.format))
      → mounted_directory keys (store_of new card) ≡ Err (NoDirectory fault)

-- The counter is at its end, and a file of the old format is left.
pub record IsCardSpent (new : ℕ → FileState) (keys : Keys) (card : CardState) : Type 0 where
  pub spent : card.counter ≡ last_counter
  pub left : IsTrue (new directory_file).honest → (file : ℕ) × (old_file keys (store_of new card) ≡ Some file)

-- a call of one of the two files failed that a directory may have, and the count is its
abbrev pub DirectoryFailed : (old new : ℕ → FileState) → (count : ℕ) → Type 0
DirectoryFailed old new count =
    FileFailed (old (directory_at old_format)) (new (directory_at old_format)) count ⊎ FileFailed (old directory_file) (new directory_file) count

-- A copy of that object's file failed: a call of it, or of the file that it is copied into, and the count is that one's.
pub record CopyFailed (old new : ℕ → FileState) (file count : ℕ) : Type 0 where
  pub named : IsObjectFile file
  pub other : ℕ
  pub into : IsObjectFile other
  pub failed : FileFailed (old file) (new file) count ⊎ FileFailed (old other) (new other) count

-- What is said of block 0 is said of the card that was handed in; what is said of the directory and of the counter, of the bench as it is
-- handed back.
module _ (old new : ℕ → FileState) (p0 p1 : PortState) (keys : Keys) (drew draws : ℕ) where
  abbrev pub MigrationRefused : MountFault → Type 0
  MigrationRefused NoStore = (card : CardState) → HasCard p0 (rpmb_key keys.huk) card → root_in (block_zero card) ≡ Err BlankBlock
  MigrationRefused (CardBlock offset) = (card : CardState) → HasCard p0 (rpmb_key keys.huk) card → root_in (block_zero card) ≡ Err (BadBlock offset)
  MigrationRefused (Directory fault) = (card : CardState) → HasCard p1 (rpmb_key keys.huk) card → IsDirectoryRefused old new keys card fault
  MigrationRefused Spent = (card : CardState) → HasCard p1 (rpmb_key keys.huk) card → IsCardSpent new keys card
  MigrationRefused (Failed (Fault Dir count)) = DirectoryFailed old new count
  MigrationRefused (Failed (Fault (File file) count)) = CopyFailed old new file count
  MigrationRefused (Failed (Fault Card count)) = Rose p0.faults p1.faults × (count ≡ p1.faults)
  MigrationRefused (Failed (Fault Entropy count)) = Rose drew draws × (count ≡ draws)
  MigrationRefused (Frame fault) = NoCardOf p0 (rpmb_key keys.huk)
  MigrationRefused (CardResult result) = NoCardOf p0 (rpmb_key keys.huk)
  MigrationRefused NoMemory = Unit {0}
  MigrationRefused fault = ⊥

-- The card has no room for what there is to move: one write for a directory of the old format, and one for each entry that is. Of the entries
-- that is told where the files can be followed that the directory is read from.
pub record HasNoRoom (old new : ℕ → FileState) (keys : Keys) (card : CardState) : Type 0 where
  pub root : RootRef
  pub named : root_in (block_zero card) ≡ Ok root
  pub short : ((root.format ≡ old_format) × (card.counter ≡ last_counter))
      ⊎ (Told (old (directory_at root.format)) (new (directory_at root.format)) → Told (old directory_file) (new directory_file)
      → (entries : List (Option DirEntry)) × (mounted_directory keys (store_of old card) ≡ Ok entries)
      × (last_counter < card.counter + cond (root.format == old_format) 1 0 + count_by is_old entries))

-- so it is where a migration ends since the counter is at its end
abbrev pub SpentWithoutRoom : (old new : ℕ → FileState) → PortState → Keys → MountFault → Type 0
SpentWithoutRoom old new p0 keys Spent = (card : CardState) → HasCard p0 (rpmb_key keys.huk) card → HasNoRoom old new keys card
SpentWithoutRoom old new p0 keys fault = Unit {0}
