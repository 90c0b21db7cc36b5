use Rattle.std.proofs.Common.{length, arith}
use Rattle.node_image.specs.Parts.{layout_of}
use Rattle.node_image.specs.Parts.Part.{block}
use Rattle.htree_file.proofs.PageLaws.{block_is}
use Rattle.htree_file.proofs.PartWrites.{put_writes}
use Rattle.htree_file.proofs.parts.write_block.Goals as goal

pub returns-clause-writes : goal.returns-clause-writes
returns-clause-writes g c = put_writes (layout_of c.args.format) (block c.args.k c.args.version) c.block_offset.result (length c.args.ciphertext.now) _ _ c.block_offset.ensures (omega arith) c.put.ensures.writes

pub returns-clause-block : goal.returns-clause-block
returns-clause-block g c = block_is c.args.ciphertext.now c.told-ciphertext c.fits-ciphertext
