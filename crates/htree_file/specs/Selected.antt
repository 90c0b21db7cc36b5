-- The places that a committed reference selects, and what a firm tree keeps.
use Rattle.std.specs.Prelude.{◌≡◌, ℕ, ◌+◌, ◌<◌, ◌≤◌, List, length, map, true, IsTrue}
use Rattle.disk_model.specs.Images.{sector}
use Rattle.disk_model.specs.State.{FileState, LeftSince, moment}
use Rattle.node_image.specs.declared.node.NodeImage.{NodeImage}
use Rattle.node_image.specs.declared.node.RootRef.{RootRef}
use Rattle.node_image.specs.Layout.{has_form, head_of, node_of}
use Rattle.node_image.specs.Parts.{Layout, Part, In, start, layout_of}
use Rattle.node_image.specs.Parts.Part.{head, node, block}
use Rattle.node_image.specs.Tables.{block_version, node_version}
use Rattle.node_image.specs.Selection.{Matches, SelectedTree, head_in, part_in, selected_tree}
use Rattle.htree_file.specs.Opening.{IsHashed, Loaded}
use Rattle.htree_file.specs.Standing.{IsFirm, OpensTo}

-- the head and the nodes in the bytes that a reference selects
abbrev pub loaded_in : Layout → SelectedTree → Loaded
loaded_in layout what = record { head = head_of what.head_bytes; nodes = map node_of what.nodes; layout = layout }

-- the part is one that the root's version and the nodes' flags name
abbrev pub IsSelected : List NodeImage → (root : ℕ) → Part → Type 0
IsSelected nodes root (head v) = v ≡ root
IsSelected nodes root (node n v) = (1 ≤ n) × (n ≤ length nodes) × (v ≡ node_version nodes root n)
IsSelected nodes root (block k v) = (k < length nodes) × (v ≡ block_version nodes k)

-- the place's sector meets such a part
pub record Lies (layout : Layout) (nodes : List NodeImage) (root place : ℕ) : Type 0 where
  pub part : Part
  pub selected : IsSelected nodes root part
  pub at : ℕ
  pub near : sector place ≡ sector at
  pub within : In layout part at

-- the selected blocks end within the file
abbrev pub BlocksEnd : Layout → List ℕ → List NodeImage → Type 0
BlocksEnd layout file nodes = (k : ℕ) → k < length nodes → start layout (block k (block_version nodes k)) + 4096 ≤ length file

-- the reference names the tree in the image: what loading it tests, part by part
pub record IsLoaded (image : List ℕ) (root : RootRef) (tree : Loaded) : Type 0 where
  pub form : has_form (part_in (layout_of root.format) image (head root.version)) ≡ true
  pub top : head_in image root ≡ tree.head
  pub matches : Matches image root tree.nodes (length tree.nodes)
  pub hashed : IsHashed root tree
  pub ends : BlocksEnd (layout_of root.format) image tree.nodes

-- In every image at every moment since, the reference names the tree, and selects the bytes that it selected; and the tree
-- is firm.
pub record StaysFirm (old new : FileState) (root : RootRef) (tree : Loaded) : Type 0 where
  pub always : (image : List ℕ) → LeftSince new (moment old) image → OpensTo root tree (selected_tree old.reads root) image
  pub firm : IsFirm new root tree

-- a firm tree of a file that is honest still stays firm
abbrev pub KeepsFirm : FileState → FileState → RootRef → Loaded → Type 0
KeepsFirm old new root tree = IsFirm old root tree → IsTrue new.honest → StaysFirm old new root tree
