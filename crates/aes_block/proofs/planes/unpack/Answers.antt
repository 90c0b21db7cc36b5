use Rattle.std.proofs.Common.{◌∙◌}
use Rattle.aes_block.proofs.PackedBlocks.{unpacked}
use Rattle.aes_block.proofs.planes.unpack.Goals as goal

pub returns : goal.returns
returns c = λ t low.
    c.bytes_of.ensures t low
    ∙ unpacked c.args.x c.transpose.result c.transpose.ensures.value c.transpose.ensures.planes t low
