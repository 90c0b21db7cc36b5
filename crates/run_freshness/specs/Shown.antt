-- What a list shows of an object, as a tree that was read.
use Rattle.std.specs.Prelude.{◌≡◌, ◌⊎◌, ◌+◌, ◌<◌, ◌≤◌, ℕ, zero, suc, List, [], ◌∷◌, Bool, true, false, not, Some, Ok}
use Rattle.std.proofs.Common.{inl, inr, refl}
use Rattle.std.proofs.lemmas.Bool.{cases_lt}
use Rattle.disk_model.specs.State.{FileState}
use Rattle.htree_file.specs.Opening.{Loaded}
use Rattle.hmac_keys.specs.declared.Keys.{Keys}
use Rattle.rpmb_card.specs.Card.{CardState}
use Rattle.rpmb_card.specs.Port.{PortState}
use Rattle.page_bytes.specs.Ranges.{meets}
use Rattle.block_file.specs.Reads.{AreReadBytes}
use Rattle.tree_paths.specs.declared.node_set.NodeSet.{NodeSet}
use Rattle.tree_paths.specs.Paths.{holds}
use Rattle.store_model.specs.Object.{ObjectMap, object_at}
use Rattle.dir_records.specs.declared.entry.DirEntry.{DirEntry}
use Rattle.crash_core.specs.DeviceKeys.{object_key}
use Rattle.crash_core.specs.Entries.{name_of}
use Rattle.crash_core.specs.EntryLists.{entry_at}
use Rattle.crash_core.specs.MountedObject.{root_of}
use Rattle.crash_core.specs.Mounting.{mounted}
use Rattle.crash_core.specs.Pictures.{block_zero}
use Rattle.object_calls.specs.declared.shown_object.ShownObject.TheVariants.{Sound}
use Rattle.object_calls.specs.Opening.{OpeningValue, bench_files}
use Rattle.object_calls.specs.ShownObjects.{IsReadFrom, ShowsBlock, ShowsData, data_blocks}
use Rattle.run_acts.specs.LineObjects.{object_shown}
use Rattle.run_acts.specs.Benches.{BenchState}
use Rattle.run_acts.specs.ListedObjects.{ShownStep, objects_of}
use Rattle.core_laws.specs.Clashes.{Clash}
use Rattle.freshness_laws.specs.Readings.{ReadTree, every_block, decoding_read}
use Rattle.freshness_laws.specs.Agreement.{MapsAgree}
use Rattle.freshness_laws.specs.SeenStores.{DirectoryClash, SeenStore}
use Rattle.run_freshness.specs.Seen.{ClosedStore, MountSees, picture_read}

-- the ciphertext of block 0, where it was asked
abbrev pub front_text : {key : List ℕ} {tree : Loaded} {old new : FileState} {attributes : List ℕ} {count : ℕ} → AreReadBytes key tree old new 0 attributes count
    → (asked : Bool) → meets 0 (0 + count) 0 ≡ asked → List ℕ
front_text front true is = (front.read 0 is).ciphertext
front_text front false is = []

-- the ciphertext of a data block, where it was good
abbrev pub data_text : (key : List ℕ) (tree : Loaded) (old new : FileState) (size k : ℕ) (bytes : List ℕ) (good : Bool) → ShowsBlock key tree old new size k bytes good → List ℕ
data_text key tree old new size k bytes true shows = (shows.1).ciphertext
data_text key tree old new size k bytes false shows = []

abbrev pub text_at : {key : List ℕ} {tree : Loaded} {old new : FileState} {size count : ℕ} {bytes : List ℕ} {bad : NodeSet} → ShowsData key tree old new size count bytes bad
    → (k : ℕ) → (k < count) ⊎ (count ≤ k) → List ℕ
text_at {key = key} {tree = tree} {old = old} {new = new} {size = size} {bytes = bytes} {bad = bad} shows k (inl lt) = data_text key tree old new size k bytes (not (holds bad (k + 1))) (shows.each k lt)
text_at shows k (inr past) = []

abbrev pub texts_of : {tsk : List ℕ} {old new : FileState} {e : DirEntry} {attributes bytes : List ℕ} {bad : NodeSet} → IsReadFrom tsk old new e attributes bytes bad → (k : ℕ) → List ℕ
texts_of {e = e} read zero = front_text read.front (meets 0 (0 + e.attributes) 0) refl
texts_of {e = e} read (suc k) = text_at read.data_are k (cases_lt k (data_blocks e.size))

-- the tree, with the ciphertexts of what is shown
abbrev pub tree_shown : {tsk : List ℕ} {old new : FileState} {e : DirEntry} {attributes bytes : List ℕ} {bad : NodeSet} → IsReadFrom tsk old new e attributes bytes bad → ReadTree (root_of e)
tree_shown read = record { tree = read.tree; verified = read.verified; block = texts_of read }

-- an object was shown between these states of the files, which a list went through
abbrev pub IsStepOf : (files : ℕ → FileState) → List ShownStep → (old new : ℕ → FileState) → Type 0
IsStepOf files [] old new = ⊥
IsStepOf files (step ∷ steps) old new = ((old ≡ files) × (new ≡ step.files)) ⊎ IsStepOf step.files steps old new

-- An object that a list shows under an entry's name, as its file read then, clashes with the one that the closed bench holds.
pub record ShownClash {keys : Keys} {block : List ℕ} (before : SeenStore keys block) (files : ℕ → FileState) (steps : List ShownStep) : Type 0 where
  pub index : ℕ
  pub entry : DirEntry
  pub at : entry_at before.entries index ≡ Some entry
  pub first : ReadTree (root_of entry)
  pub is_first : before.trees entry ≡ Some first
  pub old : ℕ → FileState
  pub new : ℕ → FileState
  pub step : IsStepOf files steps old new
  pub attributes : List ℕ
  pub bytes : List ℕ
  pub bad : NodeSet
  pub read : IsReadFrom (object_key keys entry.app) (old entry.file) (new entry.file) entry attributes bytes bad
  pub shown : object_at (objects_of steps) (name_of entry) ≡ Some (object_shown (Sound attributes bytes bad) entry.size)
  pub clash : Clash every_block (decoding_read (object_key keys entry.app) first) (decoding_read (object_key keys entry.app) (tree_shown read))

module _ {F R : Type 0} (of_file : F → FileState) (of_port : R → PortState) where
  -- a list clashes with the bench that was closed: the directory that its mount read does, or an object that it shows
  pub record ListClash (keys : Keys) (closed : BenchState) (card : CardState) (dir : FileState) (o : OpeningValue F R) (steps : List ShownStep) : Type 0 where
    pub before : ClosedStore keys closed card
    pub sees : MountSees of_file of_port keys (block_zero card) dir o
    pub clash : DirectoryClash before.seen sees.seen ⊎ ShownClash before.seen (bench_files of_file o) steps

  -- The objects that are listed have the names and sizes of what the closed bench mounts to, where it does, and each part that is good in both
  -- is equal.
  abbrev pub IsFreshList : Keys → (closed : BenchState) → (card : CardState) → (dir : FileState) → OpeningValue F R → List ShownStep → Type 0
  IsFreshList keys closed card dir o steps =
      (there : ObjectMap) → mounted keys (picture_read closed card) ≡ Ok there → MapsAgree there (objects_of steps) ⊎ ListClash keys closed card dir o steps
