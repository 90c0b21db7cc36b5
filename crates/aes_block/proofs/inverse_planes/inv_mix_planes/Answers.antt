use Rattle.std.proofs.Common.{ap, ◌∙◌}
use Rattle.aes_block.specs.Cipher.{mix_columns}
use Rattle.aes_block.specs.Planes.{block_in}
use Rattle.aes_block.proofs.InverseOnPlanes.{unmixed_block}
use Rattle.aes_block.proofs.PlaneSteps.{block_bytes}
use Rattle.aes_block.proofs.inverse_planes.inv_mix_planes.Goals as goal

pub returns-clause-value : goal.returns-clause-value
returns-clause-value c = λ t low.
    c.mix_planes-3.ensures.value t low
    ∙ ap mix_columns (c.mix_planes-2.ensures.value t low ∙ ap mix_columns (c.mix_planes.ensures.value t low))
    ∙ unmixed_block (block_in c.args.x t) (block_bytes c.args.x t)
