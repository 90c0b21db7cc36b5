-- What a whole version of a tree is, once it is written.
use Rattle.std.specs.Prelude.{◌≡◌, ℕ, ◌-◌, ◌<◌, List, length, Some, Ok}
use Rattle.node_image.specs.declared.node.RootRef.{RootRef}
use Rattle.node_image.specs.Tables.{at_node}
use Rattle.htree_file.specs.declared.change.BlockChange.{BlockChange}
use Rattle.htree_file.specs.Changes.{OpensAfter, Seals, SealsChanges, SparesZero, block_at, page_at}
use Rattle.htree_file.specs.Opening.{IsVerified, Loaded, load_of}
use Rattle.htree_file.specs.Pages.{page_in}

-- Of the committed tree and the stage that was written beside it: the stage is verified where the committed tree is, and
-- where the file is known, it loads and opens to the old pages with the changes where the committed tree loads.
pub record IsStage (known : Type 0) (before after key : List ℕ) (root : RootRef) (old : Loaded) (next : RootRef) (new : Loaded) (changes : List BlockChange) : Type 0 where
  pub next_is : next ≡ record { hash = (at_node new.nodes 1).hash; version = 1 - root.version; format = root.format }
  pub verified : IsVerified root old → IsVerified next new
  pub loaded : known → load_of before root ≡ Ok old → load_of after next ≡ Ok new
  pub opened : new.head.wrapped ≡ old.head.wrapped → known → load_of before root ≡ Ok old
      → OpensAfter key old.head.wrapped before root after next new.head.length changes
  pub seals : SealsChanges key old new changes
  pub spares : SparesZero old new

-- a tree that was made whole of these pages
pub record IsMade (known : Type 0) (file key : List ℕ) (root : RootRef) (tree : Loaded) (pages : List BlockChange) : Type 0 where
  pub root_is : root ≡ record { hash = (at_node tree.nodes 1).hash; version = 0; format = root.format }
  pub verified : IsVerified root tree
  pub loaded : known → load_of file root ≡ Ok tree
  pub opens : known → (j : ℕ) → j < length pages → page_in file key tree (block_at pages j) ≡ Some (page_at pages j)
  pub seals : (j : ℕ) → j < length pages → Seals key tree (block_at pages j) (page_at pages j)
