use Rattle.std.proofs.Common.{length, arith}
use Rattle.node_image.specs.Parts.{layout_of}
use Rattle.node_image.specs.Parts.Part.{node}
use Rattle.htree_file.proofs.PartWrites.{put_writes}
use Rattle.htree_file.proofs.parts.write_node.Goals as goal

pub returns-clause-writes : goal.returns-clause-writes
returns-clause-writes g c = put_writes (layout_of c.args.format) (node c.args.n c.args.version) c.node_offset.result (length c.to_bytes.result) _ _ c.node_offset.ensures (omega arith) c.put.ensures.writes
