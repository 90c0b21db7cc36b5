use Rattle.std.proofs.Common.{ℕ, List, ◌∙◌}
use Rattle.aes_block.proofs.Lanes.{eight, eight_at, same_planes, same_blocks}
use Rattle.aes_block.proofs.PackedBlocks.{packed}
use Rattle.aes_block.proofs.planes.key_planes.Goals as goal

pub returns-clause-planes : goal.returns-clause-planes
returns-clause-planes c = same_planes c.transpose.result c.bytes_of.result c.bytes_of.ensures c.transpose.ensures.planes

pub returns-clause-value : goal.returns-clause-value
returns-clause-value c = λ t low.
    let v : List ℕ = c.load-v.result in
    let copy = λ (i : ℕ). v in
    same_blocks c.transpose.result c.bytes_of.result c.bytes_of.ensures t
    ∙ packed (eight copy) c.transpose.result c.transpose.ensures.value t low v (eight_at copy t low) c.load-v.ensures.long c.load-v.ensures.bytes
    ∙ c.load-v.ensures.same
