-- A store as it was read under the card's block 0, whatever its files are; and where two such clash.
use Rattle.std.specs.Prelude.{◌≡◌, ◌⊎◌, ℕ, List, map, Option, Some, Ok}
use Rattle.std.specs.Option.{option_map}
use Rattle.node_image.specs.declared.node.RootRef.{RootRef}
use Rattle.hmac_keys.specs.declared.Keys.{Keys}
use Rattle.store_model.specs.Object.{Object, ObjectMap}
use Rattle.dir_records.specs.declared.entry.DirEntry.{DirEntry}
use Rattle.crash_core.specs.CardBlock.{root_in}
use Rattle.crash_core.specs.DeviceKeys.{directory_key, object_key}
use Rattle.crash_core.specs.Directory.{directory_from}
use Rattle.crash_core.specs.EntryLists.{entry_at}
use Rattle.crash_core.specs.MountedObject.{root_of}
use Rattle.crash_core.specs.Mounting.{map_of}
use Rattle.core_laws.specs.Decodings.{object_decoded, opened_decoded}
use Rattle.core_laws.specs.Clashes.{Clash}
use Rattle.freshness_laws.specs.Readings.{ReadTree, every_block, decoding_read}
use Rattle.freshness_laws.specs.Agreement.{MapsAgree}

-- The directory that block 0 names was read, and of each file that it names a tree, or none.
pub record SeenStore (keys : Keys) (block : List ℕ) : Type 0 where
  pub root : RootRef
  pub named : root_in block ≡ Ok root
  pub dir : ReadTree root
  pub entries : List (Option DirEntry)
  pub reads : directory_from (Ok (opened_decoded (decoding_read (directory_key keys) dir))) ≡ Ok entries
  pub trees : (e : DirEntry) → Option (ReadTree (root_of e))

-- the object of an entry; it is damaged where no tree was read
abbrev pub object_read : Keys → (e : DirEntry) → Option (ReadTree (root_of e)) → Object
object_read keys e read = object_decoded e.size e.attributes (option_map (decoding_read (object_key keys e.app)) read)

-- the map of the entries, each with an object
abbrev pub objects_with : (DirEntry → Object) → List (Option DirEntry) → ObjectMap
objects_with object entries = map_of (map (option_map (λ e. record { entry = e; object = object e })) entries)

abbrev pub objects_read : Keys → ((e : DirEntry) → Option (ReadTree (root_of e))) → List (Option DirEntry) → ObjectMap
objects_read keys trees entries = objects_with (λ e. object_read keys e (trees e)) entries

-- the objects that were so read
abbrev pub map_seen : {keys : Keys} {block : List ℕ} → SeenStore keys block → ObjectMap
map_seen {keys = keys} s = objects_read keys s.trees s.entries

-- a clash at the directory
abbrev pub DirectoryClash : {keys : Keys} {block : List ℕ} → (one other : SeenStore keys block) → Type 0
DirectoryClash {keys = keys} one other = Clash every_block (decoding_read (directory_key keys) one.dir) (decoding_read (directory_key keys) other.dir)

-- a clash at a file that an entry of both directories names
pub record ObjectClash {keys : Keys} {block : List ℕ} (one other : SeenStore keys block) : Type 0 where
  pub index : ℕ
  pub entry : DirEntry
  pub at : entry_at one.entries index ≡ Some entry
  pub at_other : entry_at other.entries index ≡ Some entry
  pub first : ReadTree (root_of entry)
  pub is_first : one.trees entry ≡ Some first
  pub second : ReadTree (root_of entry)
  pub is_second : other.trees entry ≡ Some second
  pub clash : Clash every_block (decoding_read (object_key keys entry.app) first) (decoding_read (object_key keys entry.app) second)

abbrev pub StoreClash : {keys : Keys} {block : List ℕ} → (one other : SeenStore keys block) → Type 0
StoreClash one other = DirectoryClash one other ⊎ ObjectClash one other

-- Under one block two directories that were read have the same entries, or they clash.
abbrev pub SeenDirectoriesAgree : Type 0
SeenDirectoriesAgree = (keys : Keys) (block : List ℕ) (one other : SeenStore keys block) → (other.entries ≡ one.entries) ⊎ DirectoryClash one other

-- And two stores have the same names and sizes, and each part that is good in both is equal; or they clash.
abbrev pub SeenStoresAgree : Type 0
SeenStoresAgree = (keys : Keys) (block : List ℕ) (one other : SeenStore keys block) → MapsAgree (map_seen one) (map_seen other) ⊎ StoreClash one other
