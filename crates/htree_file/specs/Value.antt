-- What a contract sees of a tree.
use Rattle.std.specs.Prelude.{ℕ, List, Bool, Option}
use Rattle.node_image.specs.declared.node.RootRef.{RootRef}
use Rattle.htree_file.specs.Opening.{Loaded}

-- a stage: its reference, the head and nodes that this names, and whether it is settled
pub record Staged : Type 0 where
  pub root : RootRef
  pub tree : Loaded
  pub settled : Bool

-- the file, the key that its blocks are enciphered under, the committed reference with the head and nodes that it names, and
-- the stage that is open
pub record TreeValue (F : Type 0) : Type 0 where
  pub file : F
  pub key : List ℕ
  pub root : RootRef
  pub tree : Loaded
  pub stage : Option Staged
