use Rattle.std.proofs.Common.{ap, ◌∙◌}
use Rattle.aes_block.specs.Cipher.{sub_bytes}
use Rattle.aes_block.specs.CodeSteps.{inv_affine_bytes}
use Rattle.aes_block.specs.Planes.{block_in}
use Rattle.aes_block.proofs.InverseOnPlanes.{unsubbed_block}
use Rattle.aes_block.proofs.PlaneSteps.{block_bytes}
use Rattle.aes_block.proofs.inverse_planes.inv_sub_planes.Goals as goal

pub returns-clause-value : goal.returns-clause-value
returns-clause-value c = λ t low.
    c.inv_affine_planes-2.ensures.value t low
    ∙ ap inv_affine_bytes (c.sub_planes.ensures.value t low ∙ ap sub_bytes (c.inv_affine_planes.ensures.value t low))
    ∙ unsubbed_block (block_in c.args.x t) (block_bytes c.args.x t)
