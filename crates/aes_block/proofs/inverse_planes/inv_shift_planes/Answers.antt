use Rattle.std.proofs.Common.{ap, ◌∙◌}
use Rattle.aes_block.specs.Cipher.{shift_rows}
use Rattle.aes_block.specs.Planes.{block_in}
use Rattle.aes_block.proofs.InverseOnPlanes.{unshifted_block}
use Rattle.aes_block.proofs.inverse_planes.inv_shift_planes.Goals as goal

pub returns-clause-value : goal.returns-clause-value
returns-clause-value c = λ t low.
    c.shift_planes-3.ensures.value t low
    ∙ ap shift_rows (c.shift_planes-2.ensures.value t low ∙ ap shift_rows (c.shift_planes.ensures.value t low))
    ∙ unshifted_block (block_in c.args.x t)
