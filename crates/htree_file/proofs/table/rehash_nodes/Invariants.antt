use Rattle.std.proofs.Common.{◌≡◌, ℕ, ◌≤◌, false, length, get_or}
use Rattle.tree_paths.specs.Paths.{holds}
use Rattle.node_image.specs.Tables.{at_node, no_node}
use Rattle.htree_file.specs.Staging.{HashedAmong, SameSeal}
use Rattle.htree_file.proofs.table.rehash_nodes.Given as goal

abbrev pub invariant-loop-i : goal.invariant-loop-i
invariant-loop-i l = record {
  low : l.i ≤ length l.nodes;
  seals : (k : ℕ) → SameSeal (get_or l.initial.nodes k no_node) (get_or l.nodes k no_node);
  others : (n : ℕ) → 1 ≤ n → holds l.set n ≡ false → at_node l.nodes n ≡ at_node l.initial.nodes n;
  hashed : HashedAmong (holds l.set) l.nodes l.head l.i;
}

abbrev pub decreases-loop-i : goal.decreases-loop-i
decreases-loop-i l = l.i
