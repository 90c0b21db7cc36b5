use Rattle.std.proofs.Common.{◌≡◌}
use Rattle.store_bench.proofs.trees.commits.Given as goal

abbrev pub invariant-loop : goal.invariant-loop
invariant-loop l = l.object.tree.root.format ≡ 2
