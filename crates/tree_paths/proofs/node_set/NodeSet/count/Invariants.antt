use Rattle.std.proofs.Common.{◌≡◌, ◌≤◌}
use Rattle.tree_paths.specs.Paths.{holds}
use Rattle.tree_paths.specs.Staged.{count_to}
use Rattle.tree_paths.proofs.node_set.NodeSet.count.Given as goal

abbrev pub invariant-loop-n : goal.invariant-loop-n
invariant-loop-n l = (l.count ≡ count_to (holds l.self) l.n) × (l.count ≤ l.n)
