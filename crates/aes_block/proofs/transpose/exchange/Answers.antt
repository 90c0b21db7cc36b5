use Rattle.std.proofs.Common.{ℕ, ◌*◌, ◌%◌, ◌^◌, ◌∙◌, ap, refl, bit_xor, slice_index}
use Rattle.aes_block.proofs.Lanes.{lane-op, lane-splat, length-op}
use Rattle.aes_block.proofs.transpose.exchange.Goals as goal

pub returns-clause-first_long : goal.returns-clause-first_long
returns-clause-first_long c =
    length-op bit_xor _ _ c.requires.a_long (length-op _ _ _ c.difference-d.ensures.long refl)

pub returns-clause-second_long : goal.returns-clause-second_long
returns-clause-second_long c = length-op bit_xor _ _ c.requires.b_long c.difference-d.ensures.long

pub returns-clause-first : goal.returns-clause-first
returns-clause-first c = λ j lt.
    let shl = λ (x k : ℕ). x * 2 ^ k % 2 ^ 8 in
    let long = c.difference-d.ensures.long in
    lane-op bit_xor _ _ j lt c.requires.a_long (length-op shl _ _ long refl)
    ∙ ap (bit_xor (slice_index c.args.a j)) (
    lane-splat shl c.difference-d.result c.args.n j lt long ∙ ap (λ (x : ℕ). shl x c.args.n) (c.difference-d.ensures.value j lt))

pub returns-clause-second : goal.returns-clause-second
returns-clause-second c = λ j lt.
    lane-op bit_xor _ _ j lt c.requires.b_long c.difference-d.ensures.long
    ∙ ap (bit_xor (slice_index c.args.b j)) (c.difference-d.ensures.value j lt)
