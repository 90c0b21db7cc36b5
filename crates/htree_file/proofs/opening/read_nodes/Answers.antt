use Rattle.std.proofs.Common.{refl, arith}
use Rattle.htree_file.proofs.ReadParts.{read_step}
use Rattle.htree_file.proofs.opening.read_nodes.Goals as goal

pub loop-k-preserved : goal.loop-k-preserved
loop-k-preserved c =
    read_step c.args.image.now c.args.root c.loop-k.k c.node_version-version.result c.node_offset.result c.loop-k.nodes _ c.from_bytes.result c.bytes_at.result
    (omega arith) c.loop-k.invariant refl c.node_version-version.ensures.value c.node_offset.ensures c.bytes_at.ensures c.from_bytes.ensures.node
