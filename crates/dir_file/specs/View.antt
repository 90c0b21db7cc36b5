-- What a contract sees of a directory in its file.
use Rattle.std.specs.Prelude.{ℕ, List, Bool, Option, None}
use Rattle.node_image.specs.declared.node.RootRef.{RootRef}
use Rattle.htree_file.specs.Opening.{Loaded}
use Rattle.dir_records.specs.declared.entry.DirEntry.{DirEntry}

-- a stage: its reference, the tree and the entries that this names, and whether it is settled
pub record StagedDirectory : Type 0 where
  pub root : RootRef
  pub tree : Loaded
  pub entries : List (Option DirEntry)
  pub settled : Bool

-- the key that wraps the file's, the committed reference, the tree and the entries that it names, and the stage that is open
pub record DirView : Type 0 where
  pub tsk : List ℕ
  pub root : RootRef
  pub tree : Loaded
  pub entries : List (Option DirEntry)
  pub stage : Option StagedDirectory

-- the file, and the directory in it
pub record DirValue (F : Type 0) : Type 0 where
  pub file : F
  pub dir : DirView

-- the directory once its stage is the committed one
abbrev pub adopted : DirView → StagedDirectory → DirView
adopted d s = record { tsk = d.tsk; root = s.root; tree = s.tree; entries = s.entries; stage = None }
