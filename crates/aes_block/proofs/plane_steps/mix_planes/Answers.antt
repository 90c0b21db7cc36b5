use Rattle.std.proofs.Common.{ℕ, ◌<◌, slice_index, ap, ◌∙◌, bit_xor}
use Rattle.aes_block.specs.Field.{field_times}
use Rattle.aes_block.specs.Planes.{byte_at, next_row_places}
use Rattle.aes_block.proofs.PlaneSteps.{mixed_block, next_row_lt}
use Rattle.aes_block.proofs.plane_steps.mix_planes.Goals as goal

pub returns-clause-value : goal.returns-clause-value
returns-clause-value c = λ t low. mixed_block c.args.x c.xor_planes-2.result t (λ j lt.
    let x = c.args.x in
    let next : ℕ = slice_index next_row_places j in
    let second : ℕ = slice_index next_row_places next in
    let sum = λ (k : ℕ) (h : k < 16). c.xor_planes-sums.ensures.value t k low h ∙ ap (bit_xor (byte_at x t k)) (c.next_rows-next.ensures.value t k low h) in
    let doubled = c.double_planes.ensures.value t j low lt ∙ ap (field_times 2) (sum j lt) in
    let near = c.xor_planes.ensures.value t j low lt ∙ (λ i. bit_xor (doubled i) (c.next_rows-next.ensures.value t j low lt i)) in
    let far = c.next_rows-far.ensures.value t j low lt ∙ c.next_rows.ensures.value t next low (next_row_lt j) ∙ sum second (next_row_lt next) in
    c.xor_planes-2.ensures.value t j low lt ∙ (λ i. bit_xor (near i) (far i)))
