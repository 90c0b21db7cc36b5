use Rattle.std.proofs.Common.{◌≡◌, ◌+◌, ◌*◌, take}
use Rattle.byte_fields.specs.Field.{field}
use Rattle.node_image.specs.Layout.{node_of}
use Rattle.node_image.specs.Selection.{row}
use Rattle.image_audit.proofs.trees.read_nodes.Given as goal

abbrev pub invariant-loop-k : goal.invariant-loop-k
invariant-loop-k l = take l.k l.nodes ≡ row (λ n. node_of (field (l.at + 66 * n) 66 l.bytes)) l.k
