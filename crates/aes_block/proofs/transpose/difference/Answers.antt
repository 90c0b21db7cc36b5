use Rattle.std.proofs.Common.{ℕ, ◌/◌, ◌^◌, ◌∙◌, ap, refl, bit_and, bit_xor, slice_index}
use Rattle.aes_block.proofs.Lanes.{lane-op, lane-splat, length-op}
use Rattle.aes_block.proofs.transpose.difference.Goals as goal

pub returns-clause-long : goal.returns-clause-long
returns-clause-long c =
    length-op bit_and _ _ (length-op bit_xor _ _ (length-op _ _ _ c.requires.a_long refl) c.requires.b_long) refl

pub returns-clause-value : goal.returns-clause-value
returns-clause-value c = λ j lt.
    let shr = λ (x k : ℕ). x / 2 ^ k in
    let moved = length-op shr _ _ c.requires.a_long refl in
    lane-splat bit_and _ c.args.low j lt (length-op bit_xor _ _ moved c.requires.b_long)
    ∙ ap (λ (x : ℕ). bit_and x c.args.low) (
    lane-op bit_xor _ _ j lt moved c.requires.b_long
    ∙ ap (λ (x : ℕ). bit_xor x (slice_index c.args.b j)) (lane-splat shr c.args.a c.args.n j lt c.requires.a_long))
