-- Two pictures whose cards have one block 0.
use Rattle.std.specs.Prelude.{◌≡◌, ◌⊎◌, ◌<◌, ℕ, List, length, Option, Some, None, Ok, Err}
use Rattle.disk_model.specs.Bytes.{AreBytes}
use Rattle.node_image.specs.declared.node.RootRef.{RootRef}
use Rattle.hmac_keys.specs.declared.Keys.{Keys}
use Rattle.htree_file.specs.declared.fault.TreeFault.{TreeFault}
use Rattle.htree_file.specs.Opening.{load_of}
use Rattle.htree_file.specs.Pages.{block_in}
use Rattle.store_model.specs.Object.{ObjectMap}
use Rattle.dir_records.specs.declared.entry.DirEntry.{DirEntry}
use Rattle.crash_core.specs.CardBlock.{directory_at}
use Rattle.crash_core.specs.MountedObject.{root_of}
use Rattle.crash_core.specs.Mounting.{all_held_in, map_of, mounted, mounted_directory}
use Rattle.crash_core.specs.Pictures.{Picture, block_zero}
use Rattle.freshness_laws.specs.Readings.{ReadTree}
use Rattle.freshness_laws.specs.Agreement.{MapsAgree}
use Rattle.freshness_laws.specs.SeenStores.{SeenStore, StoreClash, map_seen}

-- each image is a list of bytes
abbrev pub AreByteImages : (ℕ → List ℕ) → Type 0
AreByteImages images = (file : ℕ) → AreBytes (images file)

-- the tree is the one that the image holds under the reference, with its ciphertexts
pub record IsReadIn (image : List ℕ) (root : RootRef) (read : ReadTree root) : Type 0 where
  pub loads : load_of image root ≡ Ok read.tree
  pub blocks : (k : ℕ) → k < length (read.tree).nodes → read.block k ≡ block_in image read.tree k

-- or the image holds none
abbrev pub IsReadOrNone : (image : List ℕ) → (root : RootRef) → Option (ReadTree root) → Type 0
IsReadOrNone image root (Some read) = IsReadIn image root read
IsReadOrNone image root None = (fault : TreeFault) × (load_of image root ≡ Err fault)

-- a store is what the images hold
pub record IsSeenIn {keys : Keys} {block : List ℕ} (images : ℕ → List ℕ) (s : SeenStore keys block) : Type 0 where
  pub dir : IsReadIn (images (directory_at s.root.format)) s.root s.dir
  pub trees : (e : DirEntry) → IsReadOrNone (images e.file) (root_of e) (s.trees e)

-- Images under a block hold a store with these entries, and with the objects that these mount as.
pub record HoldsStore (keys : Keys) (block : List ℕ) (images : ℕ → List ℕ) (entries : List (Option DirEntry)) : Type 0 where
  pub seen : SeenStore keys block
  pub held : IsSeenIn images seen
  pub entries_are : seen.entries ≡ entries
  pub objects_are : map_of (all_held_in keys images entries) ≡ map_seen seen

-- So does each picture of which a directory is read.
abbrev pub PicturesHoldStores : Type 0
PicturesHoldStores =
    (keys : Keys) (picture : Picture) (entries : List (Option DirEntry)) → AreByteImages picture.images → mounted_directory keys picture ≡ Ok entries
    → HoldsStore keys (block_zero picture.card) picture.images entries

-- two pictures clash
pub record PictureClash (keys : Keys) (block : List ℕ) (one other : ℕ → List ℕ) : Type 0 where
  pub seen : SeenStore keys block
  pub held : IsSeenIn one seen
  pub seen_other : SeenStore keys block
  pub held_other : IsSeenIn other seen_other
  pub clash : StoreClash seen seen_other

-- Pictures that mount, and whose cards have one block 0, have the same names and sizes, and each part that is good in both is equal; or
-- they clash.
abbrev pub PicturesAgree : Type 0
PicturesAgree =
    (keys : Keys) (one other : Picture) (m n : ObjectMap) → AreByteImages one.images → AreByteImages other.images → block_zero other.card ≡ block_zero one.card → mounted keys one ≡ Ok m → mounted keys other ≡ Ok n
    → MapsAgree m n ⊎ PictureClash keys (block_zero one.card) one.images other.images
