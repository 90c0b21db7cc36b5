-- What an image holds under a reference is a real version.
use Rattle.std.proofs.Common.{◌≡◌, ◌+◌, ◌<◌, ℕ, List, length, Option, Result, Ok, Err, refl, ap}
use Rattle.aes_block.specs.WrappedKey.{unwrapped_of}
use Rattle.disk_model.specs.Bytes.{AreBytes}
use Rattle.node_image.specs.declared.node.RootRef.{RootRef}
use Rattle.node_image.specs.Tables.{at_node}
use Rattle.node_image.proofs.Matching.{row_same}
use Rattle.htree_file.specs.declared.fault.TreeFault.{TreeFault}
use Rattle.htree_file.specs.Opening.{Loaded, load_of}
use Rattle.htree_file.specs.Pages.{block_in, opened_in, page_in, page_of}
use Rattle.htree_file.proofs.Loadings.{verified_from}
use Rattle.htree_file.proofs.SelectedBlocks.{selected_block}
use Rattle.hmac_keys.specs.declared.Keys.{Keys}
use Rattle.crash_core.specs.DeviceKeys.{object_key}
use Rattle.crash_core.specs.MountedObject.{object_of, object_or_damaged}
use Rattle.history_seats.specs.Records.{Version}
use Rattle.core_laws.specs.Decodings.{IsReal, block_of, object_decoded, page_decoded, tree_decoding, tree_decoding_if}
use Rattle.core_laws.specs.Images.{version_of_image}

module _ (keys : Keys) (image : List ℕ) (root : RootRef) (app : List ℕ) (size attributes : ℕ) where
  abbrev v : Version
  v = version_of_image keys image root app size attributes

  -- the ciphertexts are those of the image
  block-is : (tree : Loaded) → load_of image root ≡ Ok tree → (k : ℕ) → k < length tree.nodes → block_of v k ≡ block_in image tree k
  block-is = selected_block image root

  decodes-by : (r : Result Loaded TreeFault) → load_of image root ≡ r
      → object_decoded size attributes (tree_decoding_if (object_key keys app) (block_of v) r) ≡ object_or_damaged size attributes (opened_in image (object_key keys app) r)
  decodes-by (Err fault) is = refl
  decodes-by (Ok tree) is =
      let key : List ℕ = unwrapped_of (object_key keys app) tree.head.wrapped in
      let pages = row_same (page_decoded (tree_decoding (object_key keys app) (block_of v) tree)) (page_in image key tree) (length tree.nodes)
      (λ k lt. ap (page_of key tree.head (at_node tree.nodes (k + 1)) k) (block-is tree is k lt)) in
      ap (λ (l : List (Option (List ℕ))). object_of size attributes (record { bytes = tree.head.length; pages = l })) pages

  pub image_real : AreBytes image → IsReal keys v
  image_real bytes = record {
    decodes = decodes-by (load_of image root) refl;
    verified = λ tree is. verified_from image root tree bytes is;
  }
