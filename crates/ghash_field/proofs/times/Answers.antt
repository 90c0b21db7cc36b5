use Rattle.std.proofs.Common.{◌≡◌, ℕ, ◌/◌, ◌%◌, ◌^◌, bit_xor, ap, ◌∙◌, arith}
use Rattle.std.specs.Int.Bits.{xor_zero_l}
use Rattle.ghash_field.specs.Words.{whole_of}
use Rattle.ghash_field.specs.Polynomial.{product}
use Rattle.ghash_field.proofs.Folding.{folded-product, product-below, halves-folded}
use Rattle.ghash_field.proofs.ProductLaws.{product-none}
use Rattle.ghash_field.proofs.times.Goals as goal

pub returns : goal.returns
returns c = λ g h hg hh parts.
    let a : ℕ = c.args.a in
    let p : ℕ = product a h in
    let whole : whole_of c.sum_of_two.result ≡ p =
    c.sum_of_two.ensures 0 a g h (omega arith) c.ranges.a.fits hg hh c.words_of.ensures parts
    ∙ ap (λ z. bit_xor z p) (product-none g hg) ∙ xor_zero_l p in
    halves-folded p c.whole_of-high.result.0 c.whole_of-high.result.1 c.block_of.result (product-below a h)
    (c.whole_of-high.ensures.high ∙ ap (λ z. z / 2 ^ 128) whole) (c.whole_of-high.ensures.low ∙ ap (λ z. z % 2 ^ 128) whole) c.block_of.ensures
    ∙ folded-product a h c.ranges.a.fits hh
