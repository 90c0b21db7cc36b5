use Rattle.std.proofs.Common.{◌≡◌, ℕ, bit_xor, length}
use Rattle.ghash_field.specs.Words.{AreLaneParts, AreLanes}
use Rattle.ghash_field.proofs.Halves.{word_product}
use Rattle.ghash_field.proofs.WordSums.{AreBelow}
use Rattle.ghash_field.proofs.words.sum_of_two.Given as goal

abbrev pub invariant-loop-k : goal.invariant-loop-k
invariant-loop-k l = record {
  length : length l.sums ≡ 9;
  done : (p q r s : ℕ) → AreLanes p q l.x → AreLaneParts r s l.y → AreBelow (λ k. bit_xor (word_product p r k) (word_product q s k)) l.sums l.k;
}
