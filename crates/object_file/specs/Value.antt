-- What a contract sees of an object.
use Rattle.std.specs.Prelude.{ℕ, ◌-◌, List}
use Rattle.htree_file.specs.Value.{TreeValue}

-- the tree that holds it, and its attributes
pub record ObjectValue (F : Type 0) : Type 0 where
  pub tree : TreeValue F
  pub attributes : List ℕ

-- how many bytes of data it has: the tree's first block has the attributes
abbrev pub size_in : {F : Type 0} → ObjectValue F → ℕ
size_in o = o.tree.tree.head.length - 4096
