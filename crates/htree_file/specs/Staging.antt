-- A version of a tree while it is written: what stands in the file, where what it reads as can be followed.
use Rattle.std.specs.Prelude.{◌≡◌, ℕ, ◌+◌, ◌-◌, ◌<◌, ◌≤◌, List, length, get_or, Bool, true, false, Option, Some}
use Rattle.disk_model.specs.Bytes.{AreBytes}
use Rattle.disk_model.specs.State.{FileState}
use Rattle.disk_model.specs.Keeps.{Keeps}
use Rattle.node_image.specs.declared.node.NodeImage.{NodeImage}
use Rattle.node_image.specs.declared.head.Head.{Head}
use Rattle.node_image.specs.Layout.{has_form, head_bytes, head_of, is_sized, node_bytes, node_of}
use Rattle.node_image.specs.Parts.{Layout, Off, Part}
use Rattle.node_image.specs.Parts.Part.{block, head, node}
use Rattle.node_image.specs.Tables.{at_node, block_bit, block_version, hash_in, no_node, node_version}
use Rattle.htree_file.specs.declared.change.BlockChange.{BlockChange}
use Rattle.htree_file.specs.Changes.{IsChanged, block_at, page_after, page_at, page_for}
use Rattle.htree_file.specs.Pages.{page_in, page_of}
use Rattle.htree_file.specs.Standing.{Stands}

-- A run of writes: it keeps these places, writes at most so many bytes, and settles nothing.
pub record WritesAtMost (Kept : ℕ → Type 0) (bytes : ℕ) (old new : FileState) : Type 0 where
  pub keeps : Keeps Kept old new
  pub written : new.written ≤ old.written + bytes
  pub pending_from : new.pending_from ≡ old.pending_from

-- where a table has block k, and node n
abbrev pub named_block : List NodeImage → (k : ℕ) → Part
named_block table k = block k (block_version table k)

abbrev pub named_node : List NodeImage → (root n : ℕ) → Part
named_node table root n = node n (node_version table root n)

-- the place lies off the blocks of these changes, and off the nodes of the set
abbrev pub OffBlocks : Layout → List NodeImage → List BlockChange → (place : ℕ) → Type 0
OffBlocks layout table changes place = (j : ℕ) → j < length changes → Off layout (named_block table (block_at changes j)) place

abbrev pub OffNodes : Layout → List NodeImage → (root : ℕ) → (set : ℕ → Bool) → (place : ℕ) → Type 0
OffNodes layout table root set place = (n : ℕ) → 1 ≤ n → n ≤ length table → set n ≡ true → Off layout (named_node table root n) place

-- the place lies off all that is written: these blocks and nodes, and the head
pub record OffWritten (layout : Layout) (table : List NodeImage) (root : ℕ) (changes : List BlockChange) (set : ℕ → Bool) (place : ℕ) : Type 0 where
  pub blocks : OffBlocks layout table changes place
  pub nodes : OffNodes layout table root set place
  pub top : Off layout (head root) place

-- The node seals the page as block k: a ciphertext opens to it. Where the file is known, that stands in the version which the
-- node names.
pub record IsSealed (layout : Layout) (known : Type 0) (file key : List ℕ) (h : Head) (n : NodeImage) (k : ℕ) (page : List ℕ) : Type 0 where
  pub ciphertext : List ℕ
  pub opens : page_of key h n k ciphertext ≡ Some page
  pub stands : known → Stands layout file (block k (block_bit n.flags)) ciphertext

-- the pages of the first changes are sealed by the nodes of the table
abbrev pub AreSealed : Layout → (known : Type 0) → (file key : List ℕ) → Head → (table : List NodeImage) → List BlockChange → (count : ℕ) → Type 0
AreSealed layout known file key h table changes count =
    (j : ℕ) → j < count → IsSealed layout known file key h (get_or table (block_at changes j) no_node) (block_at changes j) (page_at changes j)

-- the node is read back from its bytes, which stand in the part where the file is known
pub record NodeStands (layout : Layout) (known : Type 0) (file : List ℕ) (q : Part) (image : NodeImage) : Type 0 where
  pub stands : known → Stands layout file q (node_bytes image)
  pub returns : node_of (node_bytes image) ≡ image
  pub bytes : AreBytes (node_bytes image)

-- those of the first nodes that are in the set stand where the table has them
abbrev pub NodesStand : Layout → (known : Type 0) → (file : List ℕ) → (root : ℕ) → (table : List NodeImage) → (set : ℕ → Bool) → (count : ℕ) → Type 0
NodesStand layout known file root table set count =
    (n : ℕ) → 1 ≤ n → n ≤ count → set n ≡ true → NodeStands layout known file (named_node table root n) (at_node table n)

-- a table with room for the nodes of any tree, whose nodes name version 0
pub record IsBlank (table : List NodeImage) : Type 0 where
  pub room : length table ≡ 256
  pub zero : (k : ℕ) → (get_or table k no_node).flags ≡ 0

-- a head is read back from its bytes, which have the form of a head where its numbers fit
pub record HeadReturns (h : Head) : Type 0 where
  pub read : head_of (head_bytes h) ≡ h
  pub form : has_form (head_bytes h) ≡ is_sized h
  pub bytes : AreBytes (head_bytes h)

-- a node whose hash alone may have changed
pub record SameSeal (old new : NodeImage) : Type 0 where
  pub iv : new.iv ≡ old.iv
  pub tag : new.tag ≡ old.tag
  pub flags : new.flags ≡ old.flags

-- those of the set that come after a node have their own hashes
abbrev pub HashedAmong : (set : ℕ → Bool) → List NodeImage → Head → (from : ℕ) → Type 0
HashedAmong set table h from = (n : ℕ) → from < n → n ≤ length table → set n ≡ true → (at_node table n).hash ≡ hash_in table h n

-- the nodes of these changes may have another vector and tag, and each other node is as it was
pub record SealsAnew (changes : List BlockChange) (old new : List NodeImage) : Type 0 where
  pub flags : (k : ℕ) → (get_or new k no_node).flags ≡ (get_or old k no_node).flags
  pub others : (k : ℕ) → (IsChanged changes k → ⊥) → get_or new k no_node ≡ get_or old k no_node

-- besides, the nodes of the set may have another hash
pub record MadeFrom (changes : List BlockChange) (set : ℕ → Bool) (old new : List NodeImage) : Type 0 where
  pub flags : (k : ℕ) → (get_or new k no_node).flags ≡ (get_or old k no_node).flags
  pub seals : (k : ℕ) → (IsChanged changes k → ⊥) → SameSeal (get_or old k no_node) (get_or new k no_node)
  pub same : (n : ℕ) → 1 ≤ n → set n ≡ false → (IsChanged changes (n - 1) → ⊥) → at_node new n ≡ at_node old n

-- a version of a tree, as it is once its parts are written
pub record IsWritten (layout : Layout) (known : Type 0) (file key : List ℕ) (top : Head) (root : ℕ) (changes : List BlockChange) (set : ℕ → Bool) (table : List NodeImage) : Type 0 where
  pub sealed : AreSealed layout known file key top table changes (length changes)
  pub hashed : HashedAmong set table top 0
  pub nodes : NodesStand layout known file root table set (length table)
  pub top_stands : known → Stands layout file (head root) (head_bytes top)
  pub top_returns : HeadReturns top

-- the page that block k is to have: its change's, or the one that it has in the file, good or bad
abbrev pub wanted_page : Layout → (file key : List ℕ) → Head → List NodeImage → List BlockChange → (k : ℕ) → Option (List ℕ)
wanted_page layout file key h nodes changes k = page_after (page_for changes k) (page_in file key (record { head = h; nodes = nodes; layout = layout }) k)
