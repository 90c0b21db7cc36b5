use Rattle.std.proofs.Common.{◌≡◌, ℕ, ◌+◌, ◌*◌, ◌/◌, ◌%◌, ◌^◌, ◌<◌, bit_xor, ◌∙◌, arith}
use Rattle.std.specs.Int.Bits.{xor_shifted}
use Rattle.ghash_field.specs.Field.{block_product}
use Rattle.ghash_field.specs.Steps.{folded}
use Rattle.ghash_field.proofs.reduction.block_of.Goals as goal

pub returns : goal.returns
unfolding folded
returns c = λ short.
    let high : ℕ = c.args.high in
    let low : ℕ = c.args.low in
    let fits : low < 2 ^ 128 = c.ranges.low.fits in
    let z : ℕ = (high * 2 ^ 128 + low) * 2 in
    let bit : low / 2 ^ 127 < 2 ^ 1 = omega arith in
    let whole : high * 2 ^ 1 % 2 ^ 128 ≡ high * 2 ^ 1 = omega arith in
    let top : bit_xor (high * 2 ^ 1) (low / 2 ^ 127) ≡ high * 2 ^ 1 + low / 2 ^ 127 = xor_shifted high 1 (low / 2 ^ 127) bit in
    let upper : high * 2 ^ 1 + low / 2 ^ 127 ≡ z / 2 ^ 128 = omega arith in
    let lower : low * 2 ^ 1 % 2 ^ 128 ≡ z % 2 ^ 128 = omega arith in
    c.reduced.ensures
    ∙ (λ i. bit_xor (bit_xor (whole i) (low / 2 ^ 127)) (block_product (lower i) (0xe1 * 2 ^ 120)))
    ∙ (λ i. bit_xor ((top ∙ upper) i) (block_product (z % 2 ^ 128) (0xe1 * 2 ^ 120)))
