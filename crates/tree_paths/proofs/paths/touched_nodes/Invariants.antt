use Rattle.std.proofs.Common.{ℕ, ◌+◌, ◌<◌, IsTrue, slice_index}
use Rattle.tree_paths.specs.Paths.{IsOnPath, holds}
use Rattle.tree_paths.proofs.paths.touched_nodes.Given as goal

abbrev pub invariant-loop-block : goal.invariant-loop-block
invariant-loop-block l = record {
  all : (place : ℕ) → place < l.block-index → (m : ℕ) → IsOnPath m (slice_index l.blocks place + 1) → IsTrue (holds l.set m);
  only : (m : ℕ) → IsTrue (holds l.set m) → (place : ℕ) × (place < l.block-index) × IsOnPath m (slice_index l.blocks place + 1);
}
