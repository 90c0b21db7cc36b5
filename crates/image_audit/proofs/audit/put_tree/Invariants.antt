use Rattle.std.proofs.Common.{◌≡◌, ◌+◌, ◌++◌}
use Rattle.node_image.specs.Layout.{head_bytes, node_bytes}
use Rattle.node_image.specs.Selection.{row}
use Rattle.node_image.specs.Tables.{at_node}
use Rattle.image_audit.specs.Auditing.{joined}
use Rattle.image_audit.proofs.audit.put_tree.Given as goal

abbrev pub invariant-loop-k : goal.invariant-loop-k
invariant-loop-k g l = l.out.items ≡ (l.fn.out.items ++ head_bytes l.tree.tree.head) ++ joined (row (λ k. node_bytes (at_node l.tree.tree.nodes (k + 1))) l.k)
