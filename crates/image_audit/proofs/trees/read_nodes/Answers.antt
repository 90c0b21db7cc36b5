use Rattle.std.proofs.Common.{◌∙◌, ap, arith}
use Rattle.node_image.specs.Layout.{node_of}
use Rattle.image_audit.proofs.Nodes.{node_step}
use Rattle.image_audit.proofs.trees.read_nodes.Goals as goal

pub loop-k-preserved : goal.loop-k-preserved
loop-k-preserved c =
    node_step c.args.bytes.now c.args.at c.loop-k.k c.loop-k.nodes c.from_bytes.result (omega arith) c.loop-k.invariant (c.from_bytes.ensures.node ∙ ap node_of c.field.ensures)
