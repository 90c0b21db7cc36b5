use Rattle.std.proofs.Common.{◌≡◌, ℕ, ◌+◌, ◌<◌, true}
use Rattle.tree_paths.specs.Paths.{holds}
use Rattle.htree_file.specs.Changes.{block_at, changes_of}
use Rattle.htree_file.proofs.write_set.own_nodes.Given as goal

abbrev pub invariant-loop-j : goal.invariant-loop-j
invariant-loop-j l = record {
  all : (i : ℕ) → i < l.j → holds l.nodes (block_at (changes_of l.pages) i + 1) ≡ true;
  only : (k : ℕ) → holds l.nodes (k + 1) ≡ true → (i : ℕ) × (i < l.j) × (block_at (changes_of l.pages) i ≡ k);
}
