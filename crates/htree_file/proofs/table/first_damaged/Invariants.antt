use Rattle.std.proofs.Common.{◌≡◌, ◌+◌, ◌-◌, length}
use Rattle.htree_file.specs.Opening.{first_damaged}
use Rattle.htree_file.proofs.table.first_damaged.Given as goal

abbrev pub invariant-loop-i : goal.invariant-loop-i
invariant-loop-i l = first_damaged l.head l.nodes 1 (length l.nodes) ≡ first_damaged l.head l.nodes (l.i + 1) (length l.nodes - l.i)
