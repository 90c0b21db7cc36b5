-- Two trees that are verified under one reference, with the ciphertexts that were read of them, and yet differ: a collision of SHA-256, or
-- a forgery of AES-GCM.
use Rattle.std.specs.Prelude.{◌≡◌, ◌≢◌, ◌⊎◌, ℕ, ◌+◌, ◌*◌, ◌==◌, ◌≤◌, ◌<◌, ◌^◌, List, length, cond, Bool, true, Some, None}
use Rattle.std.specs.Int.{w16, to_be_bytes}
use Rattle.sha2.specs.Sha256.{sha256}
use Rattle.disk_model.specs.Bytes.{AreBytes}
use Rattle.node_image.specs.declared.node.NodeImage.{NodeImage}
use Rattle.node_image.specs.Hashes.{hash_input}
use Rattle.node_image.specs.Tables.{at_node, stored_hash}
use Rattle.htree_file.specs.Opening.{Loaded}
use Rattle.htree_file.specs.Pages.{page_of}
use Rattle.core_laws.specs.Decodings.{Decoding}

-- what the hash of node n is taken over
abbrev pub input_at : Loaded → (n : ℕ) → List ℕ
input_at tree n =
    hash_input (at_node tree.nodes n) (cond (n == 1) (Some tree.head) None)
    (stored_hash tree.nodes tree.head.greatest (2 * n)) (stored_hash tree.nodes tree.head.greatest (2 * n + 1))

-- At one node two different hash inputs, which are bytes, have one SHA-256.
pub record NodeClash (one other : Loaded) : Type 0 where
  pub node : ℕ
  pub first : 1 ≤ node
  pub within : (node ≤ length one.nodes) × (node ≤ length other.nodes)
  pub bytes : AreBytes (input_at one node)
  pub bytes_other : AreBytes (input_at other node)
  pub differ : input_at one node ≢ input_at other node
  pub same : sha256 (input_at one node) ≡ sha256 (input_at other node)

-- what a node's hash tells of it: its fields, and of the flags 16 bits
pub record IsAlikeNode (one other : NodeImage) : Type 0 where
  pub hash : one.hash ≡ other.hash
  pub iv : one.iv ≡ other.iv
  pub tag : one.tag ≡ other.tag
  pub flags : to_be_bytes w16 one.flags ≡ to_be_bytes w16 other.flags

-- The trees have one layout, one head, and node by node what the hashes tell of it.
pub record IsAlike (one other : Loaded) : Type 0 where
  pub layout : one.layout ≡ other.layout
  pub head : one.head ≡ other.head
  pub count : length one.nodes ≡ length other.nodes
  pub nodes : (n : ℕ) → 1 ≤ n → n ≤ length one.nodes → IsAlikeNode (at_node one.nodes n) (at_node other.nodes n)

-- the flags of each node are 16 bits, as in a tree in memory
abbrev pub HaveFlags : Loaded → Type 0
HaveFlags tree = (n : ℕ) → 1 ≤ n → n ≤ length tree.nodes → (at_node tree.nodes n).flags < 2 ^ 16

-- Two different blocks both have the tag of block k's node, under one key, vector and additional data.
pub record BlockClash (key : List ℕ) (tree : Loaded) (k : ℕ) (one other : List ℕ) : Type 0 where
  pub differ : one ≢ other
  pub page : List ℕ
  pub opens : page_of key tree.head (at_node tree.nodes (k + 1)) k one ≡ Some page
  pub page_other : List ℕ
  pub opens_other : page_of key tree.head (at_node tree.nodes (k + 1)) k other ≡ Some page_other

-- The trees are alike, and the ciphertexts of one of these blocks clash.
pub record BlocksClash (asked : ℕ → Bool) (one other : Decoding) : Type 0 where
  pub key : one.key ≡ other.key
  pub tree : IsAlike one.tree other.tree
  pub k : ℕ
  pub is_asked : asked k ≡ true
  pub clash : BlockClash other.key other.tree k (one.block k) (other.block k)

-- A clash of two trees with their blocks, at a node or at one of these blocks.
abbrev pub Clash : (asked : ℕ → Bool) → (one other : Decoding) → Type 0
Clash asked one other = NodeClash one.tree other.tree ⊎ BlocksClash asked one other
