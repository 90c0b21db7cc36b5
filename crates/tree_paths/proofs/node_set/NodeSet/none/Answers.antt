use Rattle.std.proofs.Common.{Bool, false, replicate, inl, inr}
use Rattle.std.proofs.lemmas.Bool.{cases_lt}
use Rattle.std.proofs.lemmas.List.{get_or-replicate, get_or_past}
use Rattle.tree_paths.proofs.node_set.NodeSet.none.Goals as goal

pub returns : goal.returns
returns c = λ n. elim (cases_lt n 257) [
  | inl low ↦ get_or-replicate {A = Bool} 257 n false false low
  | inr past ↦ get_or_past {X = Bool} (replicate 257 false) n false past
]
