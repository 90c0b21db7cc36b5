-- A tamper scenario that takes for a version what another tree under its reference spells out.
use Rattle.std.specs.Prelude.{◌≡◌, ◌⊎◌, ◌==◌, ◌&&◌, ℕ, List, Bool, true, Option, Some, None}
use Rattle.std.specs.Str.{bytes_eq}
use Rattle.hmac_keys.specs.declared.Keys.{Keys}
use Rattle.store_model.specs.Damage.{HasLessDamage}
use Rattle.node_image.specs.declared.node.RootRef.{RootRef}
use Rattle.dir_records.specs.declared.entry.DirEntry.{DirEntry}
use Rattle.crash_core.specs.EntryLists.{AreSingle, entry_at}
use Rattle.crash_core.specs.MountedObject.{root_of}
use Rattle.history_seats.specs.Numbers.{is_in}
use Rattle.history_seats.specs.Records.{Version}
use Rattle.core_laws.specs.Decodings.{IsReal, block_of, object_decoded, wrap_of}
use Rattle.core_laws.specs.TamperScenarios.{TamperScenario, VerifiedTree, object_under}
use Rattle.core_laws.specs.Clashes.{Clash}
use Rattle.core_laws.specs.Images.{version_of_image}
use Rattle.freshness_laws.specs.Readings.{ReadTree, every_block, decoding_read}
use Rattle.freshness_laws.specs.SeenStores.{SeenStore, object_read}

-- in the place of damage it has a tree under the reference, and these ciphertexts
pub record Takes (scenario : TamperScenario) (file generation : ℕ) (v : Version) (read : ReadTree v.root) : Type 0 where
  pub tampered : is_in file scenario.tampered ≡ true
  pub tree : VerifiedTree v.root
  pub is_tree : scenario.trees file generation v.root ≡ Some tree
  pub blocks : (k : ℕ) → scenario.blocks file generation k ≡ Some (read.block k)

-- The version's own ciphertexts, under a tree that is verified under its reference, clash with those that were read.
pub record ClashesOwn (keys : Keys) (v : Version) (read : ReadTree v.root) : Type 0 where
  pub own : ReadTree v.root
  pub committed : own.block ≡ block_of v
  pub clash : Clash every_block (decoding_read (wrap_of keys v) own) (decoding_read (wrap_of keys v) read)

-- The object that then stands has less damage than the one that the tree spells out; or the two clash.
abbrev pub TakingsMend : Type 0
TakingsMend =
    (keys : Keys) (scenario : TamperScenario) (file generation : ℕ) (v : Version) (read : ReadTree v.root) → IsReal keys v → Takes scenario file generation v read
    → HasLessDamage (object_decoded v.size v.attributes (Some (decoding_read (wrap_of keys v) read))) (object_under keys scenario file generation v)
    ⊎ ClashesOwn keys v read

-- whether an entry names that file and generation
abbrev pub is_entry : (file generation : ℕ) → DirEntry → Bool
is_entry file generation e = (e.file == file) && (e.generation == generation)

-- by that reference
abbrev pub is_root : DirEntry → RootRef → Bool
is_root e root = bytes_eq (root_of e).hash root.hash && (((root_of e).version == root.version) && ((root_of e).format == root.format))

abbrev pub verified_by : {root : RootRef} → Option (ReadTree root) → Option (VerifiedTree root)
verified_by None = None
verified_by (Some read) = Some (record { tree = read.tree; verified = read.verified })

abbrev pub block_by : {root : RootRef} → Option (ReadTree root) → (k : ℕ) → Option (List ℕ)
block_by None k = None
block_by (Some read) k = Some (read.block k)

-- A tamper scenario takes what the store held: in the place of damage of an entry's file it has the store's tree, and its ciphertexts.
pub record TakesStore {keys : Keys} {block : List ℕ} (scenario : TamperScenario) (tampered : List ℕ) (s : SeenStore keys block) : Type 0 where
  pub dishonest_are : scenario.tampered ≡ tampered
  pub trees : (index : ℕ) (e : DirEntry) (read : ReadTree (root_of e)) → entry_at s.entries index ≡ Some e → s.trees e ≡ Some read
      → (tree : VerifiedTree (root_of e)) × (scenario.trees e.file e.generation (root_of e) ≡ Some tree)
  pub blocks : (index : ℕ) (e : DirEntry) (k : ℕ) → entry_at s.entries index ≡ Some e → scenario.blocks e.file e.generation k ≡ block_by (s.trees e) k

-- There is one, whatever the store is.
abbrev pub StoresAreTaken : Type 0
StoresAreTaken = (keys : Keys) (block : List ℕ) (tampered : List ℕ) (s : SeenStore keys block) → AreSingle s.entries → (scenario : TamperScenario) × TakesStore scenario tampered s

-- Under it an object of a file that is not honest has less damage than the store's, whatever its file then holds; or the two clash.
abbrev pub TakenStoresMend : Type 0
TakenStoresMend =
    (keys : Keys) (block tampered : List ℕ) (s : SeenStore keys block) (scenario : TamperScenario) → TakesStore scenario tampered s → (image : List ℕ) (index : ℕ) (e : DirEntry)
    → entry_at s.entries index ≡ Some e → is_in e.file tampered ≡ true → IsReal keys (version_of_image keys image (root_of e) e.app e.size e.attributes)
    → HasLessDamage (object_read keys e (s.trees e)) (object_under keys scenario e.file e.generation (version_of_image keys image (root_of e) e.app e.size e.attributes))
    ⊎ ((read : ReadTree (root_of e)) × (s.trees e ≡ Some read) × ClashesOwn keys (version_of_image keys image (root_of e) e.app e.size e.attributes) read)
