use Rattle.std.proofs.Common.{◌⊎◌, ℕ, ◌≤◌, IsTrue}
use Rattle.tree_paths.specs.Paths.{IsOnPath, holds}
use Rattle.tree_paths.proofs.paths.add_path.Given as goal

abbrev pub invariant-loop-node : goal.invariant-loop-node
invariant-loop-node l = record {
  low : l.node ≤ 256;
  here : 1 ≤ l.node → IsOnPath l.node l.n;
  kept : (m : ℕ) → IsTrue (holds l.initial.set m) → IsTrue (holds l.set m);
  path : (m : ℕ) → IsOnPath m l.n → IsTrue (holds l.set m) ⊎ IsOnPath m l.node;
  only : (m : ℕ) → IsTrue (holds l.set m) → IsTrue (holds l.initial.set m) ⊎ IsOnPath m l.n;
}

abbrev pub decreases-loop-node : goal.decreases-loop-node
decreases-loop-node l = l.node
