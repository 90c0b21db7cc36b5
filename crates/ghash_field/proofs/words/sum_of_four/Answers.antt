use Rattle.std.proofs.Common.{◌≡◌, ℕ, ◌<◌, List, [], bit_xor, sym, subst, ◌∙◌, arith}
use Rattle.std.specs.Prelude.{slice_index_or}
use Rattle.std.proofs.lemmas.List.{length-set}
use Rattle.ghash_field.specs.Holes.{AreAdded, AreTwoWords}
use Rattle.ghash_field.specs.Words.{two_words}
use Rattle.ghash_field.proofs.Halves.{whole-same, whole-four, word_product}
use Rattle.ghash_field.proofs.WordSums.{two_products, two_words-words, below-set}
use Rattle.ghash_field.proofs.words.sum_of_four.Goals as goal

pub loop-k-preserved : goal.loop-k-preserved
loop-k-preserved g = record {
  length = length-set g.loop-k.sums g.loop-k.k _ ∙ g.loop-k.invariant.length;
  done = λ a b c d e f r s lanes others parts rest.
      let k : ℕ = g.loop-k.k in
      let lt : k < 9 = omega arith in
      let x : List ℕ = slice_index_or (slice_index_or g.args.x.now 0 []) k [] in
      let u : List ℕ = slice_index_or (slice_index_or g.args.x.now 1 []) k [] in
      let y : List ℕ = two_words e f k in
      let v : List ℕ = two_words r s k in
      let none : List (List ℕ) = g.no_products.result in
      let first : List (List ℕ) = g.add_products-first.result in
      let after : List (List ℕ) = g.add_products.result in
      let same : x ≡ two_words a b k = lanes k lt in
      let also : u ≡ two_words c d k = others k lt in
      let words : AreTwoWords x = subst AreTwoWords (sym same) (two_words-words a b k lt) in
      let more : AreTwoWords u = subst AreTwoWords (sym also) (two_words-words c d k lt) in
      let one : AreAdded none first x y = g.add_products-first.ensures y g.no_products.ensures.vectors words (two_words-words e f k lt) (parts k lt) in
      let two : AreAdded first after u v = g.add_products.ensures v one.0 more (two_words-words r s k lt) (rest k lt) in
      let value = two_products a b c d e f r s k none first after g.no_products.ensures.value
      (subst (λ w. AreAdded none first w y) same one) (subst (λ w. AreAdded first after w v) also two) in
      below-set (λ j. bit_xor (bit_xor (word_product a e j) (word_product c r j)) (bit_xor (word_product b f j) (word_product d s j)))
      g.loop-k.sums k g.settled.result (omega arith) (g.settled.ensures two.0 ∙ value)
      (g.loop-k.invariant.done a b c d e f r s lanes others parts rest);
}

pub returns : goal.returns
returns g = λ a b c d e f r s ha hb hc hd he hf hr hs first second third fourth.
    let sum : ℕ → ℕ = λ k. bit_xor (bit_xor (word_product a e k) (word_product c r k)) (bit_xor (word_product b f k) (word_product d s k)) in
    whole-same sum g.loop-k.sums (λ k lt. g.loop-k.invariant.done a b c d e f r s first second third fourth k (omega arith))
    ∙ whole-four a b c d e f r s ha hb hc hd he hf hr hs
