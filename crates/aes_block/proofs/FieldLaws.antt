-- Laws of the sum of bytes, and the field's product distributes over it.
use Rattle.std.proofs.Common.{◌≡◌, ℕ, zero, suc, ◌+◌, ◌*◌, ◌%◌, ◌^◌, ◌<◌, refl, sym, ap, ◌∙◌, arith, bit_xor, inl, inr}
use Rattle.std.proofs.lemmas.Bool.{cases_lt}
use Rattle.std.proofs.lemmas.Nat.{xor_comm}
use Rattle.std.proofs.lemmas.Nat.Bits.{bit_at_xor, bit_at-lt}
use Rattle.std.specs.Int.{bit_at}
use Rattle.std.specs.Int.Bits.{xor_assoc, xor_self, xor_zero_l, xor_zero_r}
use Rattle.aes_block.specs.Field.{field_times, polynomial_times, remainder}

-- the middle two of four terms exchanged
pub xor_swap : (a b c d : ℕ) → bit_xor (bit_xor a b) (bit_xor c d) ≡ bit_xor (bit_xor a c) (bit_xor b d)
xor_swap a b c d =
    xor_assoc a b (bit_xor c d)
    ∙ ap (bit_xor a) (sym (xor_assoc b c d) ∙ ap (λ (x : ℕ). bit_xor x d) (xor_comm b c) ∙ xor_assoc c b d)
    ∙ sym (xor_assoc a c (bit_xor b d))

-- what is added twice is gone
pub xor_again : (a b : ℕ) → bit_xor (bit_xor a b) b ≡ a
xor_again a b = xor_assoc a b b ∙ ap (bit_xor a) (xor_self b) ∙ xor_zero_r a

-- a sum of two bits, times t
scaled_cases : (p q t : ℕ) → p < 2 → q < 2 → (p + q) % 2 * t ≡ bit_xor (p * t) (q * t)
scaled_cases p q t hp hq = elim (cases_lt p 1) [
  | inl a ↦
      let e : p ≡ 0 = omega arith in
      let z : 0 * t ≡ 0 = omega arith in
      let m : (0 + q) % 2 ≡ q = omega arith in
      rw (e, m, z) (sym (xor_zero_l (q * t)))
  | inr b ↦
      let e : p ≡ 1 = omega arith in
      elim (cases_lt q 1) [
        | inl c ↦
            let f : q ≡ 0 = omega arith in
            let z : 0 * t ≡ 0 = omega arith in
            rw (e, f, z) (sym (xor_zero_r (1 * t)))
        | inr d ↦
            let f : q ≡ 1 = omega arith in
            let z : 0 * t ≡ 0 = omega arith in
            rw (e, f) (z ∙ sym (xor_self (1 * t)))
      ]
]

-- a bit of a sum, times t
scaled_bit : (x y n t : ℕ) → bit_at (bit_xor x y) n * t ≡ bit_xor (bit_at x n * t) (bit_at y n * t)
scaled_bit x y n t =
    ap (λ (b : ℕ). b * t) (bit_at_xor x y n) ∙ scaled_cases (bit_at x n) (bit_at y n) t (bit_at-lt x n) (bit_at-lt y n)

polynomial_times-add : (a x y n : ℕ)
    → polynomial_times a (bit_xor x y) n ≡ bit_xor (polynomial_times a x n) (polynomial_times a y n)
unfolding polynomial_times
polynomial_times-add a x y zero = sym (xor_self 0)
polynomial_times-add a x y (suc n) =
    let t : ℕ = a * 2 ^ n in
    (λ i. bit_xor (polynomial_times-add a x y n i) (scaled_bit x y n t i))
    ∙ xor_swap (polynomial_times a x n) (polynomial_times a y n) (bit_at x n * t) (bit_at y n * t)

remainder-add : (p q n : ℕ) → remainder (bit_xor p q) n ≡ bit_xor (remainder p n) (remainder q n)
unfolding remainder
remainder-add p q zero = refl
remainder-add p q (suc n) =
    let t : ℕ = 0x11b * 2 ^ n in
    ap (λ (x : ℕ). remainder x n)
    (ap (bit_xor (bit_xor p q)) (scaled_bit p q (8 + n) t) ∙ xor_swap p q (bit_at p (8 + n) * t) (bit_at q (8 + n) * t))
    ∙ remainder-add (bit_xor p (bit_at p (8 + n) * t)) (bit_xor q (bit_at q (8 + n) * t)) n

pub field_times-add : (a x y : ℕ) → field_times a (bit_xor x y) ≡ bit_xor (field_times a x) (field_times a y)
unfolding field_times
field_times-add a x y =
    ap (λ (p : ℕ). remainder p 8) (polynomial_times-add a x y 8)
    ∙ remainder-add (polynomial_times a x 8) (polynomial_times a y 8) 8
