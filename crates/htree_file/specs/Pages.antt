-- The pages of a tree: blocks of ciphertext under the file's key, deciphered where the tag is the node's.
use Rattle.std.specs.Prelude.{ℕ, ◌+◌, List, [], ◌∷◌, ◌++◌, length, ◌==◌, nat_lt, cond, Bool, true, ◌&&◌, Option, Some, None, Result, Ok, Err}
use Rattle.std.specs.Int.{w32, to_be_bytes}
use Rattle.aes_block.specs.Cipher.{cipher}
use Rattle.aes_block.specs.WrappedKey.{unwrapped_of}
use Rattle.gcm_mode.specs.Gcm.{gcm_tag, gcm_text}
use Rattle.node_image.specs.declared.node.NodeImage.{NodeImage}
use Rattle.node_image.specs.declared.node.RootRef.{RootRef}
use Rattle.node_image.specs.declared.head.Head.{Head}
use Rattle.node_image.specs.Parts.Part.{block}
use Rattle.node_image.specs.Tables.{at_node, block_version}
use Rattle.node_image.specs.Selection.{part_in, row}
use Rattle.htree_file.specs.declared.fault.TreeFault.{TreeFault}
use Rattle.std.specs.Str.{bytes_eq}
use Rattle.htree_file.specs.Opening.{Loaded, load_of}

-- what a block's tag covers beside the ciphertext: the wrapped key and the block's number
abbrev pub block_aad : Head → (k : ℕ) → List ℕ
block_aad head k = head.wrapped ++ to_be_bytes w32 k

-- the tag of a ciphertext that stands in block k
abbrev pub tag_of : (key : List ℕ) → Head → NodeImage → (k : ℕ) → (ciphertext : List ℕ) → List ℕ
tag_of key head node k ciphertext = gcm_tag (cipher key) node.iv (block_aad head k) ciphertext

abbrev pub are_bytes : List ℕ → Bool
are_bytes [] = true
are_bytes (byte ∷ bytes) = nat_lt byte 256 && are_bytes bytes

-- a block is 4,096 bytes
abbrev pub is_block : List ℕ → Bool
is_block ciphertext = (length ciphertext == 4096) && are_bytes ciphertext

-- the page that a block deciphers to where it has the node's tag; else the block is bad
abbrev pub page_of : (key : List ℕ) → Head → NodeImage → (k : ℕ) → (ciphertext : List ℕ) → Option (List ℕ)
page_of key head node k ciphertext =
    cond (is_block ciphertext && bytes_eq node.tag (tag_of key head node k ciphertext)) (Some (gcm_text (cipher key) node.iv ciphertext)) None

-- the ciphertext of block k of a tree in an image
abbrev pub block_in : List ℕ → Loaded → (k : ℕ) → List ℕ
block_in image tree k = part_in tree.layout image (block k (block_version tree.nodes k))

-- and its page
abbrev pub page_in : List ℕ → (key : List ℕ) → Loaded → (k : ℕ) → Option (List ℕ)
page_in image key tree k = page_of key tree.head (at_node tree.nodes (k + 1)) k (block_in image tree k)

-- the length of a tree, and each page that is not bad
pub record Opened : Type 0 where
  pub bytes : ℕ
  pub pages : List (Option (List ℕ))

abbrev pub opened_in : List ℕ → (wrap : List ℕ) → Result Loaded TreeFault → Result Opened TreeFault
opened_in image wrap (Ok tree) = Ok (record {
  bytes = tree.head.length;
  pages = row (page_in image (unwrapped_of wrap tree.head.wrapped) tree) (length tree.nodes);
})
opened_in image wrap (Err fault) = Err fault

-- what a reference opens to in an image, under the key that wraps the file's
abbrev pub opened_of : (wrap : List ℕ) → List ℕ → RootRef → Result Opened TreeFault
opened_of wrap image root = opened_in image wrap (load_of image root)
