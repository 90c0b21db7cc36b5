use Rattle.std.proofs.Common.{◌≡◌, ℕ, ◌<◌, slice_index, ap, ◌∙◌, arith, bit_xor}
use Rattle.aes_block.specs.Cipher.{sub_bytes}
use Rattle.aes_block.specs.CodeSteps.{stirred_byte}
use Rattle.aes_block.specs.Planes.{block_in, byte_at}
use Rattle.aes_block.proofs.Lanes.{four_cases, same_blocks, same_planes}
use Rattle.aes_block.proofs.key_schedule.stirred_planes.Goals as goal

pub xor_planes-requires-clause-y_planes : goal.xor_planes-requires-clause-y_planes
xor_planes-requires-clause-y_planes c =
    same_planes c.key_planes-constants.result c.planes_of.result c.planes_of.ensures c.key_planes-constants.ensures.planes

pub returns-clause-value : goal.returns-clause-value
unfolding sub_bytes
returns-clause-value c = λ t j low lt.
    let subbed = c.sub_planes.ensures.value t low in
    let constants =
    same_blocks c.key_planes-constants.result c.planes_of.result c.planes_of.ensures t ∙ c.key_planes-constants.ensures.value t low in
    let sum = λ (j : ℕ) (lt : j < 16).
    c.xor_planes.ensures.value t j low lt
    ∙ ap (λ (b : ℕ). bit_xor b (byte_at c.planes_of.result t j)) (c.turned_planes.ensures.value t j low lt) in
    four_cases (λ j. byte_at c.xor_planes.result t j ≡ stirred_byte (block_in c.args.x t) c.args.constant j)
    (sum 0 (omega arith) ∙ (λ i. bit_xor (slice_index (subbed i) 13) (slice_index (constants i) 0)))
    (sum 1 (omega arith) ∙ (λ i. bit_xor (slice_index (subbed i) 14) (slice_index (constants i) 1)))
    (sum 2 (omega arith) ∙ (λ i. bit_xor (slice_index (subbed i) 15) (slice_index (constants i) 2)))
    (sum 3 (omega arith) ∙ (λ i. bit_xor (slice_index (subbed i) 12) (slice_index (constants i) 3))) j lt
