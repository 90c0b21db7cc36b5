-- How the parts of a directory stand to each other.
use Rattle.std.specs.Prelude.{◌≡◌, ℕ, ◌<◌, List, length, slice_set, Option, Some, None, IfSome}
use Rattle.aes_block.specs.WrappedKey.{unwrapped_of}
use Rattle.node_image.specs.declared.node.RootRef.{RootRef}
use Rattle.htree_file.specs.Opening.{IsVerified, Loaded}
use Rattle.htree_file.specs.Value.{Staged, TreeValue}
use Rattle.dir_records.specs.declared.entry.DirEntry.{DirEntry}
use Rattle.dir_records.specs.Form.{HasForm}
use Rattle.dir_file.specs.declared.file.NextEntry.{NextEntry}
use Rattle.dir_file.specs.EntryForms.{HasForms}
use Rattle.dir_file.specs.View.{StagedDirectory}

-- the stage of the directory: that of its tree, with one entry changed
abbrev pub staged_of : Option Staged → Option NextEntry → List (Option DirEntry) → Option StagedDirectory
staged_of None next entries = None
staged_of (Some s) None entries = None
staged_of (Some s) (Some next) entries =
    Some (record { root = s.root; tree = s.tree; entries = slice_set entries next.index next.entry; settled = s.settled })

-- a tree of a directory's length, that is verified
pub record IsDirectoryTree (root : RootRef) (tree : Loaded) : Type 0 where
  pub bytes : tree.head.length ≡ 32768
  pub blocks : tree.head.greatest ≡ 8
  pub verified : IsVerified root tree

-- a stage has its entry, and none is left over
pub record NextInside (wrapped : List ℕ) (s : Staged) (next : Option NextEntry) : Type 0 where
  pub entry : NextEntry
  pub is : next ≡ Some entry
  pub below : entry.index < 256
  pub form : IfSome entry.entry HasForm
  pub tree : IsDirectoryTree s.root s.tree
  pub wrapped_is : s.tree.head.wrapped ≡ wrapped

abbrev pub NextFits : (wrapped : List ℕ) → Option Staged → Option NextEntry → Type 0
NextFits wrapped None next = next ≡ None
NextFits wrapped (Some s) next = NextInside wrapped s next

-- what holds of a directory's parts
pub record DirInside {F : Type 0} (t : TreeValue F) (tsk : List ℕ) (entries : List (Option DirEntry)) (next : Option NextEntry) : Type 0 where
  pub whole : length entries ≡ 256
  pub forms : HasForms entries
  pub key : t.key ≡ unwrapped_of tsk t.tree.head.wrapped
  pub tree : IsDirectoryTree t.root t.tree
  pub staged : NextFits t.tree.head.wrapped t.stage next
