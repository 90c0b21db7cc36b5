use Rattle.std.proofs.Common.{◌≡◌, ℕ, ◌/◌, ◌%◌, ◌<◌, ◌^◌, List, [], ◌++◌, bit_xor, get_or, map, sym, ap, subst, ◌∙◌, arith}
use Rattle.std.specs.Int.{w128, from_be_bytes}
use Rattle.std.proofs.lemmas.Nat.{xor_lt}
use Rattle.ghash_field.specs.Field.{block_power}
use Rattle.ghash_field.specs.Ghash.{ghash}
use Rattle.ghash_field.specs.Hasher.{Holds}
use Rattle.ghash_field.specs.Words.{whole_of}
use Rattle.ghash_field.proofs.Folding.{halves-folded}
use Rattle.ghash_field.proofs.FourBlocks.{four_products, four_polynomials, four_polynomials-below, four-folded, four_entries, ghash-below, ghash-four, power-below}
use Rattle.ghash_field.proofs.Ghash.update_four.Goals as goal

pub returns : goal.returns
unfolding Holds
returns c = λ h xs held.
    let blocks : List (List ℕ) = c.args.blocks.now in
    let number : ℕ → ℕ = λ k. from_be_bytes w128 (get_or blocks k []) in
    let before : ℕ = c.args.self.now.sum in
    let zeroth : ℕ = c.from_be_bytes.result in
    let a : ℕ = bit_xor before zeroth in
    let b : ℕ = c.from_be_bytes-second.result in
    let d : ℕ = c.from_be_bytes-third.result in
    let e : ℕ = c.from_be_bytes-fourth.result in
    let block : before < 2 ^ 128 = subst (λ y. y < 2 ^ 128) (sym held.2) (ghash-below h xs) in
    let la : a < 2 ^ 128 = xor_lt 128 before zeroth block c.from_be_bytes.type_inv in
    let lb : b < 2 ^ 128 = c.from_be_bytes-second.type_inv in
    let ld : d < 2 ^ 128 = c.from_be_bytes-third.type_inv in
    let le : e < 2 ^ 128 = c.from_be_bytes-fourth.type_inv in
    let whole : whole_of c.sum_of_four-sums.result ≡ four_polynomials h a b d e =
    c.sum_of_four-sums.ensures a b d e (block_power h 4) (block_power h 3) (block_power h 2) (block_power h 1) la lb ld le
    (power-below h 3) (power-below h 2) (power-below h 1) (power-below h 0) c.words_of.ensures c.words_of-2.ensures held.1.0 held.1.1 in
    let sum : c.block_of-self.result ≡ four_products h a b d e =
    halves-folded (four_polynomials h a b d e) c.whole_of-high.result.0 c.whole_of-high.result.1 c.block_of-self.result (four_polynomials-below h a b d e)
    (c.whole_of-high.ensures.high ∙ ap (λ z. z / 2 ^ 128) whole) (c.whole_of-high.ensures.low ∙ ap (λ z. z % 2 ^ 128) whole) c.block_of-self.ensures
    ∙ four-folded h a b d e la lb ld le in (
      held.0,
      held.1,
      sum
          ∙ (λ i. four_products h (bit_xor (held.2 i) (c.from_be_bytes.ensures i)) (c.from_be_bytes-second.ensures i) (c.from_be_bytes-third.ensures i) (c.from_be_bytes-fourth.ensures i))
          ∙ sym (ghash-four h (number 0) (number 1) (number 2) (number 3) xs held.0)
          ∙ ap (λ ns. ghash h (xs ++ map (from_be_bytes w128) ns)) (sym (four_entries blocks (omega arith))),
    )
