-- What a stage of a locked slot leaves, in terms of its versions.
use Rattle.std.specs.Prelude.{◌<◌, ◌≡◌, ◌+◌, ◌==◌, ◌||◌, ℕ, Bool, List, [], length, min, max, None, Option, Some, Result, Ok, Err, IsTrue, true, false}
use Rattle.disk_model.specs.Arms.{Taint}
use Rattle.disk_model.specs.State.{FileState}
use Rattle.node_image.specs.declared.node.RootRef.{RootRef}
use Rattle.htree_file.specs.Changes.{SealsAt}
use Rattle.hmac_keys.specs.declared.Keys.{Keys}
use Rattle.page_bytes.specs.declared.range.ByteRange.{ByteRange}
use Rattle.page_bytes.specs.Changed.{HasRewritten}
use Rattle.page_bytes.specs.Ranges.{meets, needs, resize_range, write_range}
use Rattle.store_model.specs.Object.{Contents, Sound}
use Rattle.store_model.specs.Data.{needs_block, resized_contents, written_contents}
use Rattle.history_seats.specs.Records.{Version}
use Rattle.core_laws.specs.Given.{decoding_given}
use Rattle.core_laws.specs.Masked.{GaveVersion, told_taints}
use Rattle.core_laws.specs.Decodings.{Decoding, page_decoded, decoding_of}
use Rattle.core_laws.specs.Stores.{Store}
use Rattle.core_laws.specs.WriteLaws.{IsMadeOver}
use Rattle.object_slots.specs.declared.fault.SlotFault.{SlotFault}
use Rattle.object_slots.specs.declared.fault.SlotFault.TheVariants.{NoEntropy}
use Rattle.object_slots.specs.SlotReads.{CorruptAnswer}
use Rattle.object_slots.specs.SlotValues.{HasStage, SlotValue, with_stage, without_stage}
use Rattle.object_slots.specs.SlotObjects.{IsOfVersion}
use Rattle.object_slots.specs.GuardedSlots.{SlotInvariant}

-- The slot has a settled stage, or an object that was made: with that dropped it may stand behind its lock, and with that adopted it holds
-- what is of the next version.
pub record IsStagedSlot (store : Store) (slot : SlotValue) (next : Version) : Type 0 where
  pub has : HasStage slot.holds
  pub calm : slot.doubt ≡ None
  pub before : SlotInvariant store (record slot { holds = without_stage slot.holds })
  pub after : IsOfVersion store.keys slot.file (with_stage slot.holds) (Some next)

-- A change of the data of a version's object: the range of the tree's bytes that it changes; the place of the bytes that are put, and these;
-- the data's size afterwards; what it makes of the contents; and which data blocks it needs.
pub record VersionChange : Type 0 where
  pub range : ByteRange
  pub place : ℕ
  pub bytes : List ℕ
  pub size : ℕ
  pub contents : Contents → Contents
  pub asked : ℕ → Bool

-- of a write to data of that size
abbrev pub write_of : (size at : ℕ) → (bytes : List ℕ) → VersionChange
write_of size at bytes = record {
  range = write_range (4096 + size) (4096 + at) (length bytes);
  place = 4096 + at;
  bytes = bytes;
  size = max size (at + length bytes);
  contents = λ c. written_contents c at bytes;
  asked = needs_block size (min at size) (at + length bytes);
}

-- of another size
abbrev pub resize_of : (size to : ℕ) → VersionChange
resize_of size to = record {
  range = resize_range (4096 + size) (4096 + to);
  place = 4096 + to;
  bytes = [];
  size = to;
  contents = λ c. resized_contents c to;
  asked = needs_block size (min to size) (max to size);
}

-- The next version was made over what the file gave: block 0, and each block that the change needs.
abbrev pub IsMadeOverGiven : Keys → (told : Option (List Taint)) → (v next : Version) → VersionChange → Type 0
IsMadeOverGiven keys told v next change =
    (given : GaveVersion keys told v (λ k. (k == 0) || needs change.range k))
    × IsMadeOver keys v next (decoding_given given.gave) change.range change.place change.bytes

-- The pages of the version's tree become those of the next: a block that the change meets has the page that the change makes, over the one
-- that it had where it needs that; any other keeps its page, good or bad, and its seal.
pub record ChangesPages (keys : Keys) (v next : Version) (range : ByteRange) (place : ℕ) (bytes : List ℕ) : Type 0 where
  pub was : Decoding
  pub now : Decoding
  pub decoded : decoding_of keys v ≡ Some was
  pub decoded_next : decoding_of keys next ≡ Some now
  pub wrapped : now.tree.head.wrapped ≡ was.tree.head.wrapped
  pub long : now.tree.head.length ≡ 4096 + next.size
  pub met : (k : ℕ) → k < length now.tree.nodes → meets range.first range.last k ≡ true → HasRewritten range place bytes k (page_decoded was k) (page_decoded now k)
  pub missed : (k : ℕ) → k < length now.tree.nodes → meets range.first range.last k ≡ false → page_decoded now k ≡ page_decoded was k
  pub seal : (k : ℕ) → k < length now.tree.nodes → meets range.first range.last k ≡ false → SealsAt was.key was.tree now.tree k None

-- The next version is the one that the reference names, of the same application, and was made over what the file gave. In a file that is
-- honest now its object is the changed one, page by page.
pub record IsNextVersion (keys : Keys) (file : FileState) (v next : Version) (change : VersionChange) (root : RootRef) : Type 0 where
  pub root_is : next.root ≡ root
  pub app : next.app ≡ v.app
  pub size : next.size ≡ change.size
  pub attributes : next.attributes ≡ v.attributes
  pub object : IsTrue file.honest → (c : Contents) → v.object ≡ Sound c → next.object ≡ Sound (change.contents c)
  pub pages : IsTrue file.honest → ChangesPages keys v next change.range change.place change.bytes
  pub over : IsMadeOverGiven keys (told_taints file) v next change

abbrev pub StageLeaves : Store → (new : SlotValue) → (v : Version) → VersionChange → Result RootRef SlotFault → Type 0
StageLeaves store new v change (Ok root) = (next : Version) × IsStagedSlot store new next × IsNextVersion store.keys new.file v next change root
StageLeaves store new v change (Err fault) = SlotInvariant store new

-- where a draw failed
abbrev pub IfUndrawn : {A : Type 0} → Result A SlotFault → Type 0 → Type 0
IfUndrawn (Err (NoEntropy count)) P = P
IfUndrawn result P = Unit {0}

-- What a stage of a change answers. It is refused as corrupt where a block that it needs is bad, as an honest file has it. Where a draw
-- failed the file, honest or not, had given block 0 and each block that the change needs.
pub record StagesVersion (store : Store) (new : SlotValue) (v : Version) (change : VersionChange) (result : Result RootRef SlotFault) : Type 0 where
  pub leaves : StageLeaves store new v change result
  pub corrupt : IsTrue new.file.honest → (c : Contents) → v.object ≡ Sound c → CorruptAnswer c change.asked result
  pub undrawn : IfUndrawn result (GaveVersion store.keys (told_taints new.file) v (λ k. (k == 0) || needs change.range k))
