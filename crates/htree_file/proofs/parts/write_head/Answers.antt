use Rattle.std.proofs.Common.{length, arith}
use Rattle.node_image.specs.Parts.{layout_of}
use Rattle.node_image.specs.Parts.Part.{head}
use Rattle.htree_file.proofs.PartWrites.{put_writes}
use Rattle.htree_file.proofs.parts.write_head.Goals as goal

pub returns-clause-writes : goal.returns-clause-writes
returns-clause-writes g c = put_writes (layout_of c.args.format) (head c.args.version) c.head_offset.result (length c.to_bytes.result) _ _ c.head_offset.ensures (omega arith) c.put.ensures.writes
