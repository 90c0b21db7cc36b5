-- Trees and their parts in the bytes of a file, and in all images that it may leave.
use Rattle.std.specs.Prelude.{◌≡◌, ℕ, ◌+◌, ◌≤◌, List, length, Ok, IsTrue}
use Rattle.disk_model.specs.State.{FileState, LeftNow}
use Rattle.disk_model.specs.Calls.{Known}
use Rattle.node_image.specs.declared.node.RootRef.{RootRef}
use Rattle.node_image.specs.Parts.{Layout, Part, start, size}
use Rattle.node_image.specs.Selection.{SelectedTree, part_in, selected_tree}
use Rattle.htree_file.specs.Opening.{Loaded, load_of}

-- these bytes stand in the part, and the file reaches to its end
pub record Stands (layout : Layout) (file : List ℕ) (q : Part) (bytes : List ℕ) : Type 0 where
  pub fits : start layout q + size q ≤ length file
  pub is : part_in layout file q ≡ bytes

-- what the file reads as can be followed, and is told
abbrev pub Told : FileState → FileState → Type 0
Told old new = IsTrue new.tells × Known old new

-- in the image the reference names this tree, and selects these bytes
pub record OpensTo (root : RootRef) (tree : Loaded) (what : SelectedTree) (image : List ℕ) : Type 0 where
  pub opens : load_of image root ≡ Ok tree
  pub selects : selected_tree image root ≡ what

-- A tree is firm where in every image that its file may leave the reference names it, and selects what it selects in the
-- bytes that the file reads as.
abbrev pub IsFirm : FileState → RootRef → Loaded → Type 0
IsFirm s root tree = (image : List ℕ) → LeftNow s image → OpensTo root tree (selected_tree s.reads root) image
