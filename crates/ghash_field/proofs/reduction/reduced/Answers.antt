use Rattle.std.proofs.Common.{ℕ, ◌/◌, ◌^◌, bit_xor, sym, ap, ◌∙◌}
use Rattle.std.specs.Int.Bits.{xor_assoc}
use Rattle.ghash_field.proofs.Shifts.{fallen, reduction-shifts}
use Rattle.ghash_field.proofs.reduction.reduced.Goals as goal

pub returns : goal.returns
returns c =
    let high : ℕ = c.args.high in
    let all : ℕ = bit_xor c.args.low (fallen c.args.low) in
    ap (λ s. bit_xor (bit_xor s (all / 2 ^ 2)) (all / 2 ^ 7)) (xor_assoc high all (all / 2 ^ 1))
    ∙ ap (λ s. bit_xor s (all / 2 ^ 7)) (xor_assoc high (bit_xor all (all / 2 ^ 1)) (all / 2 ^ 2))
    ∙ xor_assoc high (bit_xor (bit_xor all (all / 2 ^ 1)) (all / 2 ^ 2)) (all / 2 ^ 7)
    ∙ ap (bit_xor high) (sym (reduction-shifts c.args.low c.ranges.low.fits))
