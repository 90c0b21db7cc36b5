use Rattle.std.proofs.Common.{◌≡◌, ◌≤◌}
use Rattle.node_image.specs.Parts.{layout_of}
use Rattle.htree_file.specs.Opening.{need_of}
use Rattle.htree_file.proofs.table.need_of.Given as goal

abbrev pub invariant-loop-k : goal.invariant-loop-k
invariant-loop-k l = record { same : l.most ≡ need_of (layout_of l.format) l.nodes l.k; small : l.most ≤ 10000000 }
