-- The bits of selected bytes, and the steps of the transpose as exchanges of rows.
use Rattle.std.proofs.Common.{◌≡◌, ℕ, ◌+◌, ◌-◌, ◌*◌, ◌/◌, ◌%◌, ◌^◌, ◌<◌, ◌≤◌, min, List, [], ◌∷◌, map, sym, ap, ◌∙◌, arith, bit_xor, inl, inr}
use Rattle.std.specs.Prelude.{if◌then◌else◌, ◌==◌, slice_index_or}
use Rattle.std.specs.Int.{bit_at}
use Rattle.std.specs.List.{range_with_len}
use Rattle.std.proofs.lemmas.Bool.{cases_lt}
use Rattle.std.proofs.lemmas.Nat.{pow_pos, shr-shr, shr_split}
use Rattle.std.proofs.lemmas.Nat.Bits.{bit_at_xor, bit_at_and, bit_at-lt, bit_at_not, bit_at_cat_low, bit_at_cat_high, bit_at_ones, bit_at-zero}
use mir.Syntax.{w8}
use Rattle.aes_block.specs.BitMatrix.{bit_matrix, bits, difference, exchanged, high_row, low_row}
use Rattle.aes_block.specs.Planes.{byte_at, lane}
use Rattle.aes_block.specs.SBox.{from_bits_of}
use Rattle.aes_block.proofs.ByteBits.{number, number-bits}
use Rattle.aes_block.proofs.Lanes.{eight_cases}

-- a sum with what it differs by, where m is set: the other bit
changed : (p q m : ℕ) → p < 2 → q < 2 → m < 2 → (q + min ((p + q) % 2) m) % 2 ≡ (if m == 1 then p else q)
changed p q m hp hq hm = elim (cases_lt m 1) [
  | inl a ↦
      let e : m ≡ 0 = omega arith in
      let g : (q + min ((p + q) % 2) 0) % 2 ≡ q = omega arith in
      rw e g
  | inr b ↦
      let e : m ≡ 1 = omega arith in
      let g : (q + min ((p + q) % 2) 1) % 2 ≡ p = omega arith in
      rw e g
]

-- the same where m is clear
unchanged : (p q m : ℕ) → p < 2 → q < 2 → m < 2 → (p + min ((p + q) % 2) (1 - m)) % 2 ≡ (if m == 1 then p else q)
unchanged p q m hp hq hm = elim (cases_lt m 1) [
  | inl a ↦
      let e : m ≡ 0 = omega arith in
      let g : (p + min ((p + q) % 2) (1 - 0)) % 2 ≡ q = omega arith in
      rw e g
  | inr b ↦
      let e : m ≡ 1 = omega arith in
      let g : (p + min ((p + q) % 2) (1 - 1)) % 2 ≡ p = omega arith in
      rw e g
]

bit_at-shl : (b n k : ℕ) → n ≤ k → k < 8 → bit_at (b * 2 ^ n % 2 ^ 8) k ≡ bit_at b (k - n)
bit_at-shl b n k le lt =
    let x : ℕ = b * 2 ^ n in
    let none : x ≡ x + 0 = omega arith in
    sym (bit_at_cat_low (x / 2 ^ 8) 8 (x % 2 ^ 8) k lt)
    ∙ ap (λ (y : ℕ). bit_at y k) (shr_split x 8 ∙ none)
    ∙ bit_at_cat_high b n 0 k (pow_pos n) le

bit_at-shr : (a n k : ℕ) → bit_at (a / 2 ^ n) k ≡ bit_at a (n + k)
bit_at-shr a n k = ap (λ (x : ℕ). x % 2) (shr-shr a n k)

-- the n lowest bits of the mask are set
low_set : (n low k : ℕ) → low % 2 ^ n ≡ 2 ^ n - 1 → k < n → bit_at low k ≡ 1
low_set n low k e lt =
    ap (λ (x : ℕ). bit_at x k) (sym (shr_split low n))
    ∙ bit_at_cat_low (low / 2 ^ n) n (low % 2 ^ n) k lt ∙ ap (λ (x : ℕ). bit_at x k) e ∙ bit_at_ones n k lt

-- no bit below the n-th is set in what was moved up by n places
none_below : (x n k : ℕ) → k < n → k < 8 → bit_at (x * 2 ^ n % 2 ^ 8) k ≡ 0
none_below x n k below lt =
    let y : ℕ = x * 2 ^ n in
    let plain : y ≡ x * 2 ^ n + 0 = omega arith in
    sym (bit_at_cat_low (y / 2 ^ 8) 8 (y % 2 ^ 8) k lt)
    ∙ ap (λ (z : ℕ). bit_at z k) (shr_split y 8 ∙ plain)
    ∙ bit_at_cat_low x n 0 k below ∙ bit_at-zero k

bit_at-difference : (n low a b k : ℕ) → bit_at (difference n low a b) k ≡ min ((bit_at a (n + k) + bit_at b k) % 2) (bit_at low k)
bit_at-difference n low a b k =
    bit_at_and (bit_xor (a / 2 ^ n) b) low k
    ∙ ap (λ (x : ℕ). min x (bit_at low k)) (bit_at_xor (a / 2 ^ n) b k ∙ ap (λ (x : ℕ). (x + bit_at b k) % 2) (bit_at-shr a n k))

-- the places of the mask, moved up by n places, are the others
turned_mask : (n low k : ℕ) → low < 256 → low * 2 ^ n % 2 ^ 8 ≡ 255 - low → n ≤ k → k < 8 → bit_at low (k - n) ≡ 1 - bit_at low k
turned_mask n low k small e le lt =
    sym (bit_at-shl low n k le lt) ∙ ap (λ (x : ℕ). bit_at x k) e ∙ bit_at_not w8 low k small lt

low_bit : (n low a b k : ℕ) → low < 256 → low % 2 ^ n ≡ 2 ^ n - 1 → low * 2 ^ n % 2 ^ 8 ≡ 255 - low → k < 8
    → bit_at (low_row n low a b) k ≡ (if bit_at low k == 1 then bit_at a k else bit_at b (k - n))
low_bit n low a b k small e f lt =
    let d : ℕ = difference n low a b in
    bit_at_xor a (d * 2 ^ n % 2 ^ 8) k ∙ elim (cases_lt k n) [
      | inl below ↦
          let set : bit_at low k ≡ 1 = low_set n low k e below in
          let none : bit_at (d * 2 ^ n % 2 ^ 8) k ≡ 0 = none_below d n k below lt in
          let same : (bit_at a k + 0) % 2 ≡ bit_at a k = omega (arith, bit_at-lt a k) in
          ap (λ (x : ℕ). (bit_at a k + x) % 2) none ∙ same ∙ ap (λ (m : ℕ). if m == 1 then bit_at a k else bit_at b (k - n)) (sym set)
      | inr above ↦
          let back : n + (k - n) ≡ k = omega arith in
          ap (λ (x : ℕ). (bit_at a k + x) % 2) (
          bit_at-shl d n k above lt ∙ bit_at-difference n low a b (k - n)
          ∙ (λ i. min ((bit_at a (back i) + bit_at b (k - n)) % 2) (turned_mask n low k small f above lt i)))
          ∙ unchanged (bit_at a k) (bit_at b (k - n)) (bit_at low k) (bit_at-lt a k) (bit_at-lt b (k - n)) (bit_at-lt low k)
    ]

high_bit : (n low a b k : ℕ) → bit_at (high_row n low a b) k ≡ (if bit_at low k == 1 then bit_at a (n + k) else bit_at b k)
high_bit n low a b k =
    bit_at_xor b (difference n low a b) k ∙ ap (λ (x : ℕ). (bit_at b k + x) % 2) (bit_at-difference n low a b k)
    ∙ changed (bit_at a (n + k)) (bit_at b k) (bit_at low k) (bit_at-lt a (n + k)) (bit_at-lt b k) (bit_at-lt low k)

-- eight bits that are f's
bits_by : (x : ℕ) (f : ℕ → ℕ) → ((k : ℕ) → k < 8 → bit_at x k ≡ f k) → bits x ≡ map f (range_with_len 0 8)
bits_by x f h =
    λ i. h 0 (omega arith) i ∷ h 1 (omega arith) i ∷ h 2 (omega arith) i ∷ h 3 (omega arith) i
    ∷ h 4 (omega arith) i ∷ h 5 (omega arith) i ∷ h 6 (omega arith) i ∷ h 7 (omega arith) i ∷ []

pub low_bits : (n low a b x : ℕ) → low < 256 → low % 2 ^ n ≡ 2 ^ n - 1 → low * 2 ^ n % 2 ^ 8 ≡ 255 - low → x ≡ low_row n low a b
    → bits x ≡ map (λ k. if bit_at low k == 1 then bit_at a k else bit_at b (k - n)) (range_with_len 0 8)
low_bits n low a b x small e f is =
    ap bits is ∙ bits_by (low_row n low a b) (λ k. if bit_at low k == 1 then bit_at a k else bit_at b (k - n)) (λ k lt. low_bit n low a b k small e f lt)

pub high_bits : (n low a b x : ℕ) → x ≡ high_row n low a b
    → bits x ≡ map (λ k. if bit_at low k == 1 then bit_at a (n + k) else bit_at b k) (range_with_len 0 8)
high_bits n low a b x is =
    ap bits is ∙ bits_by (high_row n low a b) (λ k. if bit_at low k == 1 then bit_at a (n + k) else bit_at b k) (λ k lt. high_bit n low a b k)

-- the three exchanges make the transpose, in each lane
pub transposed_lane : (x r : List (List ℕ)) (j : ℕ) → bit_matrix r j ≡ exchanged 4 (exchanged 2 (exchanged 1 (bit_matrix x j)))
    → ((i : ℕ) → i < 8 → lane r i j < 256) → (i : ℕ) → i < 8 → lane r i j ≡ byte_at x i j
unfolding from_bits_of
transposed_lane x r j e small i lt =
    let row = λ (k : ℕ). ap (λ (m : List (List ℕ)). number (slice_index_or m k [])) e in
    sym (number-bits (lane r i j) (small i lt))
    ∙ eight_cases (λ k. number (bits (lane r k j)) ≡ byte_at x k j)
    (row 0) (row 1) (row 2) (row 3) (row 4) (row 5) (row 6) (row 7) i lt
