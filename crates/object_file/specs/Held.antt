-- What a loaded object holds in an image of its file.
use Rattle.std.specs.Prelude.{ℕ, List, length, Option}
use Rattle.node_image.specs.Selection.{row}
use Rattle.htree_file.specs.Pages.{page_in}
use Rattle.htree_file.specs.Value.{TreeValue}
use Rattle.page_bytes.specs.Pages.{bytes_from, page_at}
use Rattle.store_model.specs.Object.{Contents}
use Rattle.crash_core.specs.MountedObject.{bad_blocks}
use Rattle.object_file.specs.Value.{ObjectValue, size_in}

-- each page of a tree that is not bad
abbrev pub pages_in : {F : Type 0} → TreeValue F → (image : List ℕ) → List (Option (List ℕ))
pages_in t image = row (page_in image t.key t.tree) (length t.tree.nodes)

-- the attributes that it was loaded with, its data, and which of its data blocks are bad
abbrev pub held_in : {F : Type 0} → ObjectValue F → (image : List ℕ) → Contents
held_in o image = record {
  attributes = o.attributes;
  bytes = bytes_from (page_at (pages_in o.tree image)) 4096 (size_in o);
  bad = bad_blocks (pages_in o.tree image);
}
