use Rattle.std.proofs.Common.{◌≡◌, ℕ, ◌<◌, List, [], bit_xor, sym, subst, ◌∙◌, arith}
use Rattle.std.specs.Prelude.{slice_index_or}
use Rattle.std.proofs.lemmas.List.{length-set}
use Rattle.ghash_field.specs.Holes.{AreAdded, AreTwoWords}
use Rattle.ghash_field.specs.Words.{two_words}
use Rattle.ghash_field.proofs.Halves.{whole-same, whole-two, word_product}
use Rattle.ghash_field.proofs.WordSums.{one_product, two_words-words, below-set}
use Rattle.ghash_field.proofs.words.sum_of_two.Goals as goal

pub loop-k-preserved : goal.loop-k-preserved
loop-k-preserved c = record {
  length = length-set c.loop-k.sums c.loop-k.k _ ∙ c.loop-k.invariant.length;
  done = λ p q r s lanes parts.
      let k : ℕ = c.loop-k.k in
      let lt : k < 9 = omega arith in
      let x : List ℕ = slice_index_or c.args.x.now k [] in
      let y : List ℕ = two_words r s k in
      let none : List (List ℕ) = c.no_products.result in
      let after : List (List ℕ) = c.add_products.result in
      let same : x ≡ two_words p q k = lanes k lt in
      let words : AreTwoWords x = subst AreTwoWords (sym same) (two_words-words p q k lt) in
      let added : AreAdded none after x y = c.add_products.ensures y c.no_products.ensures.vectors words (two_words-words r s k lt) (parts k lt) in
      let value = one_product p q r s k none after c.no_products.ensures.value (subst (λ v. AreAdded none after v y) same added) in
      below-set (λ j. bit_xor (word_product p r j) (word_product q s j)) c.loop-k.sums k c.settled.result (omega arith) (c.settled.ensures added.0 ∙ value)
      (c.loop-k.invariant.done p q r s lanes parts);
}

pub returns : goal.returns
returns c = λ p q r s hp hq hr hs lanes parts.
    let f : ℕ → ℕ = λ k. bit_xor (word_product p r k) (word_product q s k) in
    whole-same f c.loop-k.sums (λ k lt. c.loop-k.invariant.done p q r s lanes parts k (omega arith)) ∙ whole-two p q r s hp hq hr hs
