-- What migrating a bench does: its files are moved into the current format, and at each moment it mounts to the objects that it mounted to
-- before.
use Rattle.std.specs.Prelude.{◌≡◌, ◌==◌, ◌+◌, ℕ, Bool, cond, List, Option, Ok, IsTrue}
use Rattle.std.specs.List.{count_by}
use Rattle.disk_model.specs.State.{FileState}
use Rattle.htree_file.specs.Standing.{Told}
use Rattle.node_image.specs.declared.node.RootRef.{RootRef}
use Rattle.node_image.specs.References.{current_format}
use Rattle.hmac_keys.specs.declared.Keys.{Keys}
use Rattle.hmac_keys.specs.KeyTable.{rpmb_key}
use Rattle.tee_types.specs.Limits.{directory_file}
use Rattle.dir_records.specs.declared.entry.DirEntry.{DirEntry}
use Rattle.rpmb_card.specs.Card.{CardState}
use Rattle.rpmb_card.specs.Port.{PortState}
use Rattle.rpmb_host.specs.Honest.{HasCard}
use Rattle.crash_core.specs.CardBlock.{directory_at, old_format, root_in}
use Rattle.crash_core.specs.EntryLists.{AreCurrent}
use Rattle.crash_core.specs.Mounting.{mounted_directory}
use Rattle.crash_core.specs.Opening.{reads_of}
use Rattle.crash_core.specs.Pictures.{IsPictureOf, Picture, block_zero}
use Rattle.crash_core.specs.Migration.{DeviceStates, Migrates}
use Rattle.object_calls.specs.MovedEntries.{AreMoved, is_old}

-- these files, by their numbers, and that card
abbrev pub devices_of : (ℕ → FileState) → CardState → DeviceStates
devices_of files card = record { files = files; card = card }

-- the store of the files as they read, and of that card
abbrev pub store_of : (ℕ → FileState) → CardState → Picture
store_of files card = record { images = reads_of files; card = card }

-- The port still tells a card that has the key, and from the one bench to the other each moment keeps the maps.
pub record KeepsBenchMaps (old new : ℕ → FileState) (p1 : PortState) (keys : Keys) (card : CardState) : Type 0 where
  pub after : CardState
  pub has : HasCard p1 (rpmb_key keys.huk) after
  pub migrates : Migrates keys (devices_of old card) (devices_of new after)

-- Over a card that has the key: whatever a crash leaves of the bench, at any moment, mounts as it might have at first.
abbrev pub MigratesBench : (old new : ℕ → FileState) → (p0 p1 : PortState) → Keys → Type 0
MigratesBench old new p0 p1 keys = (card : CardState) → HasCard p0 (rpmb_key keys.huk) card → KeepsBenchMaps old new p1 keys card

-- The entries that the directory had, as it was read, and those that it has in every picture now, where its file is honest: each of the old
-- format was moved, and so many there were.
pub record HasMovedEntries (old new : ℕ → FileState) (keys : Keys) (before after : CardState) (objects : ℕ) : Type 0 where
  pub entries : List (Option DirEntry)
  pub next : List (Option DirEntry)
  pub mounted : mounted_directory keys (store_of old before) ≡ Ok entries
  pub moved : AreMoved entries next
  pub counted : objects ≡ count_by is_old entries
  pub holds : IsTrue (new directory_file).honest → (picture : Picture) → IsPictureOf new after picture → mounted_directory keys picture ≡ Ok next

-- What the bench that was handed in had to move: its directory, if its reference is to a file of the old format, and the objects whose
-- entries are. Of these it is told where the files can be followed that the directory is read from.
pub record HadToMove (old new : ℕ → FileState) (keys : Keys) (before after : CardState) (directory : Bool) (objects : ℕ) : Type 0 where
  pub root : RootRef
  pub named : root_in (block_zero before) ≡ Ok root
  pub directory_is : directory ≡ (root.format == old_format)
  pub objects_are : Told (old (directory_at root.format)) (new (directory_at root.format))
      → Told (old directory_file) (new directory_file)
      → HasMovedEntries old new keys before after objects

abbrev pub TellsMoves : (old new : ℕ → FileState) → (p0 p1 : PortState) → Keys → (directory : Bool) → (objects : ℕ) → Type 0
TellsMoves old new p0 p1 keys directory objects =
    (before after : CardState) → HasCard p0 (rpmb_key keys.huk) before → HasCard p1 (rpmb_key keys.huk) after
    → HadToMove old new keys before after directory objects

-- The card names a directory of the current format, and so is the file of each entry.
pub record IsAllCurrent (keys : Keys) (picture : Picture) : Type 0 where
  pub root : RootRef
  pub entries : List (Option DirEntry)
  pub named : root_in (block_zero picture.card) ≡ Ok root
  pub holds : mounted_directory keys picture ≡ Ok entries
  pub directory : root.format ≡ current_format
  pub objects : AreCurrent entries

-- It is so in every picture of the bench, where the directory's file is honest.
abbrev pub LeavesCurrent : (new : ℕ → FileState) → (p1 : PortState) → Keys → Type 0
LeavesCurrent new p1 keys =
    (card : CardState) (picture : Picture) → HasCard p1 (rpmb_key keys.huk) card → IsTrue (new directory_file).honest → IsPictureOf new card picture
    → IsAllCurrent keys picture

-- each move wrote the card once
abbrev pub WritesOnceEach : (p0 p1 : PortState) → Keys → (directory : Bool) → (objects : ℕ) → Type 0
WritesOnceEach p0 p1 keys directory objects =
    (before after : CardState) → HasCard p0 (rpmb_key keys.huk) before → HasCard p1 (rpmb_key keys.huk) after
    → after.counter ≡ before.counter + cond directory 1 0 + objects
