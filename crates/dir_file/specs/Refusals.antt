-- What a refusal to load a directory says of any file: the value that it carries is what differs.
use Rattle.std.specs.Prelude.{◌≡◌, ◌≢◌, ℕ, ◌+◌, List, Err, IsTrue}
use Rattle.disk_model.specs.State.{FileState}
use Rattle.aes_block.specs.WrappedKey.{unwrapped_of}
use Rattle.node_image.specs.declared.node.RootRef.{RootRef}
use Rattle.node_image.specs.Tables.{at_node}
use Rattle.htree_file.specs.declared.fault.TreeFault.{TreeFault}
use Rattle.htree_file.specs.declared.fault.TreeFault.TheVariants.{BadTag}
use Rattle.htree_file.specs.Answers.{BlockAnswer, Differs, IsOutside}
use Rattle.htree_file.specs.Opening.{IsVerified, Loaded}
use Rattle.htree_file.specs.Pages.{block_in}
use Rattle.crash_core.specs.declared.fault.DirFault.{DirFault}
use Rattle.crash_core.specs.declared.fault.DirFault.TheVariants.{Tree, WrongLength, Record, Double}
use Rattle.dir_file.specs.Loading.{SeesPages}
use Rattle.dir_file.specs.Seen.{SeesTree}

-- reading block k of a tree was refused: what stands there, as the file reads now, has another tag than its node
pub record IsRefusedBlock (key : List ℕ) (tree : Loaded) (new : FileState) (k : ℕ) (fault : TreeFault) : Type 0 where
  pub ciphertext : List ℕ
  pub answer : BlockAnswer key tree.head (at_node tree.nodes (k + 1)) k (λ c. IsTrue new.tells → c ≡ block_in new.reads tree k) {A = Unit {0}} (Err fault) ciphertext

-- What refuses the entries of a tree that loaded.
abbrev pub EntriesDiffer : (key : List ℕ) → Loaded → (new : FileState) → DirFault → Type 0
EntriesDiffer key tree new (Tree (BadTag k want found)) = IsRefusedBlock key tree new k (BadTag k want found)
EntriesDiffer key tree new (Tree fault) = IsOutside fault
EntriesDiffer key tree new (WrongLength bytes) = (tree.head.length ≡ bytes) × (bytes ≢ 32768)
EntriesDiffer key tree new (Record index offset) = SeesPages new new key tree (Err (Record index offset))
EntriesDiffer key tree new (Double index first) = SeesPages new new key tree (Err (Double index first))

-- a tree that is verified under the reference, and was seen in the file, is refused so under the directory's key
pub record IsRefusedTree (tsk : List ℕ) (root : RootRef) (new : FileState) (fault : DirFault) : Type 0 where
  pub tree : Loaded
  pub verified : IsVerified root tree
  pub seen : SeesTree new new root tree
  pub differs : EntriesDiffer (unwrapped_of tsk tree.head.wrapped) tree new fault

-- A fault of the tree's head and nodes differs as the file reads; each other one is that of a tree that is verified under the
-- reference: a block that is bad as the file reads, the tree's length, or what pages hold that have the tags of its nodes. That tree
-- and these pages were seen in the file, with armed masks over what it reads now where it tells its arms.
abbrev pub DirDiffers : (tsk : List ℕ) → (new : FileState) → RootRef → DirFault → Type 0
DirDiffers tsk new root (Tree (BadTag k want found)) = IsRefusedTree tsk root new (Tree (BadTag k want found))
DirDiffers tsk new root (Tree fault) = IsTrue new.tells → Differs new.reads root fault
DirDiffers tsk new root fault = IsRefusedTree tsk root new fault
