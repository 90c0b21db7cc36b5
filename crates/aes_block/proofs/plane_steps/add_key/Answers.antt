use Rattle.std.proofs.Common.{ap, ◌∙◌, bit_xor}
use Rattle.aes_block.specs.Planes.{byte_at}
use Rattle.aes_block.proofs.Lanes.{same_byte, same_planes}
use Rattle.aes_block.proofs.PackedBlocks.{added_block}
use Rattle.aes_block.proofs.plane_steps.add_key.Goals as goal

pub xor_planes-requires-clause-y_planes : goal.xor_planes-requires-clause-y_planes
xor_planes-requires-clause-y_planes c = same_planes c.args.key.now c.planes_of.result c.planes_of.ensures c.requires.key_planes

pub returns-clause-value : goal.returns-clause-value
returns-clause-value c = λ t low.
    added_block c.args.x c.args.key.now c.xor_planes.result t (λ j lt.
    c.xor_planes.ensures.value t j low lt
    ∙ ap (bit_xor (byte_at c.args.x t j)) (same_byte c.args.key.now c.planes_of.result c.planes_of.ensures t j))
