use Rattle.std.proofs.Common.{◌≡◌, ◌+◌, take}
use Rattle.node_image.specs.Selection.{row, selected_node}
use Rattle.htree_file.proofs.opening.read_nodes.Given as goal

abbrev pub invariant-loop-k : goal.invariant-loop-k
invariant-loop-k l = take l.k l.nodes ≡ row (λ m. selected_node l.image l.root (m + 1)) l.k
