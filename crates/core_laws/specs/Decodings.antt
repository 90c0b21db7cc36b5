-- What a tree spells out: with its file's key, and a ciphertext for each of its blocks.
use Rattle.std.specs.Prelude.{◌≡◌, ℕ, ◌+◌, List, [], length, get_or, Option, Some, None, Result, Ok, Err}
use Rattle.aes_block.specs.WrappedKey.{unwrapped_of}
use Rattle.node_image.specs.Selection.{row}
use Rattle.node_image.specs.Tables.{at_node}
use Rattle.htree_file.specs.declared.fault.TreeFault.{TreeFault}
use Rattle.htree_file.specs.Opening.{IsVerified, Loaded}
use Rattle.htree_file.specs.Pages.{Opened, page_of}
use Rattle.hmac_keys.specs.declared.Keys.{Keys}
use Rattle.store_model.specs.Object.{Damaged, Object}
use Rattle.crash_core.specs.DeviceKeys.{object_key}
use Rattle.crash_core.specs.MountedObject.{object_of}
use Rattle.history_seats.specs.Records.{Version}

pub record Decoding : Type 0 where
  -- the file's key
  pub key : List ℕ
  pub tree : Loaded
  pub block : ℕ → List ℕ

-- a tree with these ciphertexts, where `wrap` is the key that wraps the file's
abbrev pub tree_decoding : (wrap : List ℕ) → (block : ℕ → List ℕ) → Loaded → Decoding
tree_decoding wrap block tree = record { key = unwrapped_of wrap tree.head.wrapped; tree = tree; block = block }

-- the page of block k, which is bad where its ciphertext has another tag than its node
abbrev pub page_decoded : Decoding → (k : ℕ) → Option (List ℕ)
page_decoded sp k = page_of sp.key sp.tree.head (at_node sp.tree.nodes (k + 1)) k (sp.block k)

abbrev pub pages_decoded : Decoding → List (Option (List ℕ))
pages_decoded sp = row (page_decoded sp) (length sp.tree.nodes)

abbrev pub opened_decoded : Decoding → Opened
opened_decoded sp = record { bytes = sp.tree.head.length; pages = pages_decoded sp }

-- the object of those sizes that is decoded out; damaged where nothing is
abbrev pub object_decoded : (size attributes : ℕ) → Option Decoding → Object
object_decoded size attributes None = Damaged size
object_decoded size attributes (Some sp) = object_of size attributes (opened_decoded sp)

abbrev pub tree_decoding_if : (wrap : List ℕ) → (block : ℕ → List ℕ) → Result Loaded TreeFault → Option Decoding
tree_decoding_if wrap block (Ok tree) = Some (tree_decoding wrap block tree)
tree_decoding_if wrap block (Err fault) = None

-- the key that wraps the one of a version's file
abbrev pub wrap_of : Keys → Version → List ℕ
wrap_of keys v = object_key keys v.app

-- the ciphertext of a block that is committed in a version
abbrev pub block_of : Version → (k : ℕ) → List ℕ
block_of v k = get_or v.tree.blocks k []

-- a spelling with the ciphertexts that are committed in a version
abbrev pub with_committed : Version → Decoding → Decoding
with_committed v sp = record sp { block = block_of v }

-- What a version spells out by itself, if its tree loads.
abbrev pub decoding_of : Keys → Version → Option Decoding
decoding_of keys v = tree_decoding_if (wrap_of keys v) (block_of v) v.loads

-- A version is real: its object is the one that it spells out, and its tree is verified under its reference.
pub record IsReal (keys : Keys) (v : Version) : Type 0 where
  pub decodes : object_decoded v.size v.attributes (decoding_of keys v) ≡ v.object
  pub verified : (tree : Loaded) → v.loads ≡ Ok tree → IsVerified v.root tree
