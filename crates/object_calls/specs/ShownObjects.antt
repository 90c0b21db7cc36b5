-- An object as it is shown, and what was read of its file.
use Rattle.std.specs.Prelude.{◌≡◌, ◌+◌, ◌-◌, ◌*◌, ◌/◌, ◌<◌, ◌≤◌, ◌==◌, ℕ, Bool, true, false, not, List, length, get_or, None}
use Rattle.std.specs.List.{list_any}
use Rattle.aes_block.specs.WrappedKey.{unwrapped_of}
use Rattle.disk_model.specs.State.{FileState}
use Rattle.htree_file.specs.Opening.{IsVerified, Loaded}
use Rattle.htree_file.specs.Pages.{page_in}
use Rattle.htree_file.specs.Standing.{Told}
use Rattle.tree_paths.specs.declared.node_set.NodeSet.{NodeSet}
use Rattle.tree_paths.specs.Paths.{holds}
use Rattle.block_file.specs.Reads.{AreReadBytes, IsPage}
use Rattle.store_model.specs.Object.{Contents, Object, Damaged as DamagedObject, Sound as SoundObject}
use Rattle.dir_records.specs.declared.entry.DirEntry.{DirEntry}
use Rattle.crash_core.specs.MountedObject.{mounted_object, root_of}
use Rattle.object_file.specs.declared.fault.ObjectFault.{ObjectFault}
use Rattle.object_file.specs.Loading.{IsOutsideObject, ObjectDiffers}
use Rattle.object_calls.specs.declared.shown_object.ShownObject.{ShownObject}
use Rattle.object_calls.specs.declared.shown_object.ShownObject.TheVariants.{Damaged, Sound}

-- a number is among these
abbrev pub is_among : List ℕ → ℕ → Bool
is_among numbers k = list_any (λ j. j == k) numbers

-- the object is shown part by part: each bad block by its number, and its bytes as zero
pub record ShowsContents (attributes bytes : List ℕ) (bad : NodeSet) (c : Contents) : Type 0 where
  pub attributes_are : attributes ≡ c.attributes
  pub bytes_are : bytes ≡ c.bytes
  pub bad_are : (k : ℕ) → holds bad k ≡ is_among c.bad k

abbrev pub ShowsObject : ShownObject → (size : ℕ) → Object → Type 0
ShowsObject Damaged size (DamagedObject known) = size ≡ known
ShowsObject Damaged size (SoundObject c) = ⊥
ShowsObject (Sound attributes bytes bad) size (SoundObject c) = (size ≡ length c.bytes) × ShowsContents attributes bytes bad c
ShowsObject (Sound attributes bytes bad) size (DamagedObject known) = ⊥

-- What is shown of data block k, from 0 on, whatever the file is: bytes of a page that a ciphertext with the node's tag deciphers to; or
-- zero bytes of a block that is bad.
abbrev pub ShowsBlock : (key : List ℕ) → Loaded → (old new : FileState) → (size k : ℕ) → (bytes : List ℕ) → (good : Bool) → Type 0
ShowsBlock key tree old new size k bytes true =
    (page : List ℕ) × IsPage key tree old new (k + 1) page
    × ((i : ℕ) → 4096 * k ≤ i → i < 4096 * (k + 1) → i < size → get_or bytes i 0 ≡ get_or page (i - 4096 * k) 0)
ShowsBlock key tree old new size k bytes false =
    (Told old new → page_in old.reads key tree (k + 1) ≡ None)
    × ((i : ℕ) → 4096 * k ≤ i → i < 4096 * (k + 1) → i < size → get_or bytes i 0 ≡ 0)

-- how many blocks data of that size have
abbrev pub data_blocks : (size : ℕ) → ℕ
data_blocks size = (size + 4095) / 4096

-- the first so many data blocks are shown so, and each that is bad is named, by its number in the tree
pub record ShowsData (key : List ℕ) (tree : Loaded) (old new : FileState) (size count : ℕ) (bytes : List ℕ) (bad : NodeSet) : Type 0 where
  pub long : length bytes ≡ size
  pub each : (k : ℕ) → k < count → ShowsBlock key tree old new size k bytes (not (holds bad (k + 1)))
  pub others : (n : ℕ) → holds bad n ≡ true → (1 ≤ n) × (n ≤ count)

-- A sound object was read from a tree that is verified under the entry's reference.
pub record IsReadFrom (tsk : List ℕ) (old new : FileState) (e : DirEntry) (attributes bytes : List ℕ) (bad : NodeSet) : Type 0 where
  pub tree : Loaded
  pub verified : IsVerified (root_of e) tree
  pub sized : tree.head.length ≡ 4096 + e.size
  pub all_attributes : length attributes ≡ e.attributes
  pub front : AreReadBytes (unwrapped_of tsk tree.head.wrapped) tree old new 0 attributes e.attributes
  pub data_are : ShowsData (unwrapped_of tsk tree.head.wrapped) tree old new e.size (data_blocks e.size) bytes bad

-- a damaged one differs, as the file reads
pub record IsFoundDamaged (tsk : List ℕ) (new : FileState) (e : DirEntry) : Type 0 where
  pub fault : ObjectFault
  pub inside : IsOutsideObject fault → ⊥
  pub differs : ObjectDiffers tsk new e fault

-- what a shown object is, whatever its file is
abbrev pub IsShownFrom : (tsk : List ℕ) → (old new : FileState) → DirEntry → ShownObject → Type 0
IsShownFrom tsk old new e Damaged = IsFoundDamaged tsk new e
IsShownFrom tsk old new e (Sound attributes bytes bad) = IsReadFrom tsk old new e attributes bytes bad

-- The object of an entry is shown as it mounts, where its file is followed; and of any file it is what was read.
pub record ShowsEntry (tsk : List ℕ) (old new : FileState) (e : DirEntry) (object : ShownObject) : Type 0 where
  pub told : Told old new → ShowsObject object e.size (mounted_object tsk new.reads e)
  pub read : IsShownFrom tsk old new e object
