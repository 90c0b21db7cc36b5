-- What a file says of the directory in it.
use Rattle.std.specs.Prelude.{◌≡◌, ℕ, List, Option, Ok}
use Rattle.disk_model.specs.State.{FileState, LeftNow}
use Rattle.node_image.specs.declared.node.RootRef.{RootRef}
use Rattle.htree_file.specs.Opening.{Loaded, load_of}
use Rattle.htree_file.specs.Standing.{IsFirm}
use Rattle.dir_records.specs.declared.entry.DirEntry.{DirEntry}
use Rattle.crash_core.specs.Directory.{directory_of}
use Rattle.dir_file.specs.View.{StagedDirectory}

-- in every image that the file may leave, the reference names one and the same tree, and the directory is these entries
pub record IsDurable (s : FileState) (tsk : List ℕ) (root : RootRef) (tree : Loaded) (entries : List (Option DirEntry)) : Type 0 where
  pub firm : IsFirm s root tree
  pub entries_are : (image : List ℕ) → LeftNow s image → directory_of tsk image root ≡ Ok entries

-- as the file reads, the stage's reference names its tree and its entries
pub record IsStaged (s : FileState) (tsk : List ℕ) (stage : StagedDirectory) : Type 0 where
  pub loads : load_of s.reads stage.root ≡ Ok stage.tree
  pub entries_are : directory_of tsk s.reads stage.root ≡ Ok stage.entries
