-- A byte and its eight bits.
use Rattle.std.proofs.Common.{◌≡◌, ℕ, zero, suc, ◌-◌, ◌*◌, ◌^◌, ◌<◌, List, [], ◌∷◌, map, slice_index, refl, sym, ap, ◌∙◌, arith, inl, inr, add_comm}
use Rattle.std.specs.Int.{bit_at}
use Rattle.std.specs.List.{range_with_len}
use Rattle.std.proofs.lemmas.Bool.{cases_lt}
use Rattle.std.proofs.lemmas.Nat.Bits.{bit_at_cat_high, bit_at_cat_low, bit_at_lowest}
use Rattle.aes_block.specs.BitMatrix.{bits}
use Rattle.aes_block.specs.SBox.{from_bits_of}
use Rattle.aes_block.proofs.AllBytes.{same_at_byte, values}

-- the number of eight bits
abbrev pub number : List ℕ → ℕ
number l = from_bits_of (λ i. slice_index l i) 8

pub from_bits_lt : (f : ℕ → ℕ) (n : ℕ) → ((i : ℕ) → f i < 2) → from_bits_of f n < 2 ^ n
unfolding from_bits_of
from_bits_lt f zero h = omega arith
from_bits_lt f (suc n) h =
    let before : from_bits_of f n < 2 ^ n = from_bits_lt f n h in
    let bit : f n < 2 = h n in
    let power : 2 ^ suc n ≡ 2 * 2 ^ n = omega arith in
    elim (cases_lt (f n) 1) [
      | inl a ↦
          let z : f n ≡ 0 = omega arith in
          rw (z, power) (omega arith)
      | inr b ↦
          let o : f n ≡ 1 = omega arith in
          rw (o, power) (omega arith)
    ]

pub bits_back : (f : ℕ → ℕ) → ((i : ℕ) → f i < 2) → (n i : ℕ) → i < n → bit_at (from_bits_of f n) i ≡ f i
unfolding from_bits_of
bits_back f h zero i lt = absurd (omega arith)
bits_back f h (suc n) i lt = elim (cases_lt i n) [
  | inl a ↦
      ap (λ (x : ℕ). bit_at x i) (add_comm (from_bits_of f n) (f n * 2 ^ n)) ∙ bit_at_cat_low (f n) n (from_bits_of f n) i a
      ∙ bits_back f h n i a
  | inr b ↦
      let e : i ≡ n = omega arith in
      let z : i - n ≡ 0 = omega arith in
      let small : f n < 2 = h n in
      ap (λ (x : ℕ). bit_at x i) (add_comm (from_bits_of f n) (f n * 2 ^ n)) ∙ bit_at_cat_high (f n) n (from_bits_of f n) i (from_bits_lt f n h) b
      ∙ ap (bit_at (f n)) z ∙ bit_at_lowest (f n) ∙ (omega arith) ∙ ap f (sym e)
]

number-all : values (λ n. number (bits n)) ≡ values (λ n. n)
unfolding from_bits_of
number-all = refl

pub number-bits : (n : ℕ) → n < 256 → number (bits n) ≡ n
number-bits = same_at_byte (λ n. number (bits n)) (λ n. n) number-all

-- a byte is the number of its bits
pub byte_from : (f : ℕ → ℕ) (n : ℕ) → n < 256 → ((i : ℕ) → i < 8 → f i ≡ bit_at n i) → from_bits_of f 8 ≡ n
unfolding from_bits_of
byte_from f n small h =
    (λ m. number (h 0 (omega arith) m ∷ h 1 (omega arith) m ∷ h 2 (omega arith) m ∷ h 3 (omega arith) m
    ∷ h 4 (omega arith) m ∷ h 5 (omega arith) m ∷ h 6 (omega arith) m ∷ h 7 (omega arith) m ∷ []))
    ∙ number-bits n small

-- eight bits are those of their number
pub bits_of-number : (f : ℕ → ℕ) → ((i : ℕ) → f i < 2) → map f (range_with_len 0 8) ≡ bits (from_bits_of f 8)
bits_of-number f h =
    let back = λ (i : ℕ) (lt : i < 8). sym (bits_back f h 8 i lt) in
    λ m. back 0 (omega arith) m ∷ back 1 (omega arith) m ∷ back 2 (omega arith) m ∷ back 3 (omega arith) m
    ∷ back 4 (omega arith) m ∷ back 5 (omega arith) m ∷ back 6 (omega arith) m ∷ back 7 (omega arith) m ∷ []
