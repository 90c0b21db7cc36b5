-- What a reference names in an image, and references that name one and the same in every image that a file may leave.
use Rattle.std.specs.Prelude.{◌≡◌, ℕ, ◌<◌, ◌≤◌, List, Result, Ok}
use Rattle.disk_model.specs.State.{FileState, LeftNow}
use Rattle.node_image.specs.declared.node.RootRef.{RootRef}
use Rattle.node_image.specs.References.{IsCurrent}
use Rattle.node_image.specs.Selection.{SelectedTree, selected_tree}
use Rattle.hmac_keys.specs.declared.Keys.{Keys}
use Rattle.htree_file.specs.declared.fault.TreeFault.{TreeFault}
use Rattle.htree_file.specs.Opening.{Loaded, load_of}
use Rattle.htree_file.specs.Pages.{Opened, opened_of}
use Rattle.htree_file.specs.Selected.{Lies}
use Rattle.store_model.specs.Object.{Object}
use Rattle.dir_records.specs.declared.entry.DirEntry.{DirEntry}
use Rattle.crash_core.specs.MountedObject.{object_or_damaged, root_of}
use Rattle.crash_core.specs.DeviceKeys.{object_key}

-- the bytes that a reference selects, the tree that it loads or what refuses it, and what this opens to
pub record Sight : Type 0 where
  pub tree : SelectedTree
  pub loads : Result Loaded TreeFault
  pub opened : Result Opened TreeFault

abbrev pub sight_of : (wrap image : List ℕ) → RootRef → Sight
sight_of wrap image root = record { tree = selected_tree image root; loads = load_of image root; opened = opened_of wrap image root }

-- in every image that the file may leave the reference selects one and the same tree, and opens alike
pub record Stands (s : FileState) (wrap : List ℕ) (root : RootRef) (what : Sight) : Type 0 where
  pub current : IsCurrent root
  pub alike : (image : List ℕ) → LeftNow s image → sight_of wrap image root ≡ what

-- so does the reference of an entry, which opens to that object
pub record Shows (keys : Keys) (s : FileState) (e : DirEntry) (object : Object) : Type 0 where
  pub sight : Sight
  pub stands : Stands s (object_key keys e.app) (root_of e) sight
  pub is : object_or_damaged e.size e.attributes sight.opened ≡ object

-- the reference loads, and no place from one up to another has a sector that meets a part that it selects
pub record Misses (from upto : ℕ) (reads : List ℕ) (root : RootRef) : Type 0 where
  pub tree : Loaded
  pub loads : load_of reads root ≡ Ok tree
  pub off : (place : ℕ) → from ≤ place → place < upto → Lies tree.layout tree.nodes root.version place → ⊥
