-- A change of an object's data that was staged over what its file gave, whatever the file is: under each tamper scenario the next version is the
-- machine's, or what was given strays from what stands.
use Rattle.std.specs.Prelude.{◌≡◌, ◌⊎◌, ◌+◌, ◌<◌, ℕ, true, false, List, [], length, max, None, Ok}
use Rattle.tee_types.specs.declared.call.Call.TheVariants.{Truncate, Write}
use Rattle.node_image.specs.Layout.{greatest_of}
use Rattle.hmac_keys.specs.declared.Keys.{Keys}
use Rattle.htree_file.specs.Changes.{SealsAt}
use Rattle.htree_file.specs.Opening.{Loaded}
use Rattle.page_bytes.specs.declared.range.ByteRange.{ByteRange}
use Rattle.page_bytes.specs.Changed.{HasRewritten}
use Rattle.page_bytes.specs.Ranges.{meets, resize_range, write_range}
use Rattle.store_model.specs.Object.{Contents, Sound}
use Rattle.store_model.specs.Data.{resized_contents, written_contents}
use Rattle.history_seats.specs.Records.{Version}
use Rattle.core_laws.specs.Decodings.{IsReal, Decoding, block_of, page_decoded, tree_decoding, with_committed, wrap_of}
use Rattle.core_laws.specs.TamperScenarios.{TamperScenario, object_under, under}
use Rattle.core_laws.specs.Given.{Gave, is_asked, decoding_given}
use Rattle.core_laws.specs.Shown.{Strays}

-- What a version spells out whose tree that is.
abbrev pub tree_decoding_next : Keys → Version → Loaded → Decoding
tree_decoding_next keys next tree = tree_decoding (wrap_of keys next) (block_of next) tree

-- The next version was made over what was given: a block that the change meets has the page that the change makes, over the page that was
-- given where it needs that; any other keeps its seal, and the page that its committed ciphertext gives, good or bad.
pub record IsMadeOver (keys : Keys) (v next : Version) (given : Decoding) (r : ByteRange) (at : ℕ) (bytes : List ℕ) : Type 0 where
  pub app : next.app ≡ v.app
  pub attributes : next.attributes ≡ v.attributes
  pub tree : Loaded
  pub loads : next.loads ≡ Ok tree
  pub long : tree.head.length ≡ 4096 + next.size
  pub whole : length tree.nodes ≡ greatest_of tree.head.length
  pub wrapped : tree.head.wrapped ≡ given.tree.head.wrapped
  pub met : (k : ℕ) → k < length tree.nodes → meets r.first r.last k ≡ true
      → HasRewritten r at bytes k (page_decoded given k) (page_decoded (tree_decoding_next keys next tree) k)
  pub seal : (k : ℕ) → k < length tree.nodes → meets r.first r.last k ≡ false → SealsAt given.key given.tree tree k None
  pub page : (k : ℕ) → k < length tree.nodes → meets r.first r.last k ≡ false → page_decoded (tree_decoding_next keys next tree) k ≡ page_decoded (with_committed v given) k

-- A write.
abbrev pub WritesStandOrStray : Type 0
WritesStandOrStray =
    (keys : Keys) (scenario : TamperScenario) (file generation : ℕ) (v next : Version) (handle at : ℕ) (bytes : List ℕ) → IsReal keys v → next.size ≡ max v.size (at + length bytes)
    → (gave : Gave (wrap_of keys v) v.root v.size (is_asked v.size at (Write handle bytes)))
    → IsMadeOver keys v next (decoding_given gave) (write_range (4096 + v.size) (4096 + at) (length bytes)) (4096 + at) bytes
    → (c : Contents) → object_under keys scenario file generation v ≡ Sound c
    → (object_under keys scenario file generation next ≡ Sound (written_contents c at bytes))
    ⊎ Strays (under keys scenario file generation v) (is_asked v.size at (Write handle bytes)) (decoding_given gave)

-- A truncation, or a growth.
abbrev pub TruncationsStandOrStray : Type 0
TruncationsStandOrStray =
    (keys : Keys) (scenario : TamperScenario) (file generation : ℕ) (v next : Version) (handle at : ℕ) → IsReal keys v
    → (gave : Gave (wrap_of keys v) v.root v.size (is_asked v.size at (Truncate handle next.size)))
    → IsMadeOver keys v next (decoding_given gave) (resize_range (4096 + v.size) (4096 + next.size)) (4096 + next.size) []
    → (c : Contents) → object_under keys scenario file generation v ≡ Sound c
    → (object_under keys scenario file generation next ≡ Sound (resized_contents c next.size))
    ⊎ Strays (under keys scenario file generation v) (is_asked v.size at (Truncate handle next.size)) (decoding_given gave)
