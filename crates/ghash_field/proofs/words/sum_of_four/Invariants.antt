use Rattle.std.proofs.Common.{◌≡◌, ℕ, [], bit_xor, length, slice_index_or}
use Rattle.ghash_field.specs.Words.{AreLaneParts, AreLanes}
use Rattle.ghash_field.proofs.Halves.{word_product}
use Rattle.ghash_field.proofs.WordSums.{AreBelow}
use Rattle.ghash_field.proofs.words.sum_of_four.Given as goal

abbrev pub invariant-loop-k : goal.invariant-loop-k
invariant-loop-k l = record {
  length : length l.sums ≡ 9;
  done : (a b c d e f g h : ℕ) → AreLanes a b (slice_index_or l.x 0 []) → AreLanes c d (slice_index_or l.x 1 [])
      → AreLaneParts e f (slice_index_or l.y 0 []) → AreLaneParts g h (slice_index_or l.y 1 [])
      → AreBelow (λ k. bit_xor (bit_xor (word_product a e k) (word_product c g k)) (bit_xor (word_product b f k) (word_product d h k))) l.sums l.k;
}
