-- Laws of the product of polynomials before any remainder is taken.
use Rattle.std.proofs.Common.{◌≡◌, ℕ, zero, suc, ◌+◌, ◌*◌, ◌^◌, ◌<◌, ◌≤◌, bit_xor, sym, ap, subst, ◌∙◌, arith, ⊎_elim}
use Rattle.std.specs.Int.{bit_at}
use Rattle.std.proofs.Math.Nat.{pow-suc}
use Rattle.std.proofs.lemmas.Bool.{cases_lt}
use Rattle.std.proofs.lemmas.Nat.{pow_pos, pow_below, shl_below, xor_lt}
use Rattle.std.proofs.lemmas.Nat.Bits.{bit_at-lt, bit_at_above}
use Rattle.ghash_field.specs.Polynomial.{product}
use Rattle.ghash_field.proofs.Sums.{xor_below-same, xor_below-lt, IsLinear, linear-zero}
use Rattle.ghash_field.proofs.Algebra.{power_of, HasPowers, times_below, times-linear, times-linear_left, times-comm, times-one, times-power}
use Rattle.ghash_field.proofs.Division.{double-xor}
use Rattle.ghash_field.proofs.Product.{pick-lt, product-multiples}

-- a polynomial times x
double : ℕ → ℕ
double c = c * 2

double-linear : IsLinear double
unfolding double
double-linear a b = double-xor a b

-- its powers
power-double : (k q : ℕ) → power_of double k q ≡ q * 2 ^ k
unfolding power_of double
power-double zero q = omega arith
power-double (suc k) q =
    let e : q * 2 ^ suc k ≡ q * 2 ^ k * 2 = ap (λ y. q * y) (pow-suc 2 k) ∙ omega arith in
    ap (λ c. c * 2) (power-double k q) ∙ sym e

double-powers : HasPowers double 128
double-powers k lt = power-double k 1 ∙ omega arith

-- the product as a product by powers of x
product-times : (p q : ℕ) → p < 2 ^ 128 → q < 2 ^ 128 → product p q ≡ times_below double 128 p q
unfolding times_below
product-times p q hp hq =
    product-multiples p q hp hq ∙ xor_below-same _ _ 128 (λ i lt. ap (λ c. bit_at p i * c) (sym (power-double i q)))

-- a number is at most its multiples
pub shifted_le : (q m : ℕ) → 0 < m → q ≤ q * m
shifted_le q zero h = absurd (omega arith)
shifted_le q (suc m) h = let e : q * suc m ≡ q * m + q = omega arith in omega (arith, e)

-- a polynomial of degree below a has degree below each greater b
pub widened : (p a b : ℕ) → a ≤ b → p < 2 ^ a → p < 2 ^ b
widened p a b le lt =
    ⊎_elim
    (λ (more : a < b). omega (arith, pow_below a b more))
    (λ (same : b ≤ a). let e : a ≡ b = omega arith in subst (λ k. p < 2 ^ k) e lt)
    (cases_lt a b)

-- no multiple
none : (m k : ℕ) → 0 * m < 2 ^ k
none m k = omega (arith, pow_pos k)

-- the product distributes over the sum, on the left
pub product-linear_left : (p r q : ℕ) → p < 2 ^ 128 → r < 2 ^ 128 → q < 2 ^ 128
    → product (bit_xor p r) q ≡ bit_xor (product p q) (product r q)
product-linear_left p r q hp hr hq =
    product-times (bit_xor p r) q (xor_lt 128 p r hp hr) hq
    ∙ times-linear_left double 128 p r q
    ∙ (λ i. bit_xor (sym (product-times p q hp hq) i) (sym (product-times r q hr hq) i))

-- and on the right
pub product-linear_right : (p q r : ℕ) → p < 2 ^ 128 → q < 2 ^ 128 → r < 2 ^ 128
    → product p (bit_xor q r) ≡ bit_xor (product p q) (product p r)
product-linear_right p q r hp hq hr =
    product-times p (bit_xor q r) hp (xor_lt 128 q r hq hr)
    ∙ times-linear double double-linear 128 p q r
    ∙ (λ i. bit_xor (sym (product-times p q hp hq) i) (sym (product-times p r hp hr) i))

-- it commutes
pub product-commutes : (p q : ℕ) → p < 2 ^ 128 → q < 2 ^ 128 → product p q ≡ product q p
product-commutes p q hp hq =
    product-times p q hp hq ∙ times-comm double double-linear 128 double-powers p q hp hq ∙ sym (product-times q p hq hp)

-- a product by a polynomial of one term, or none
pub product-bit : (p t : ℕ) → p < 2 ^ 128 → t < 2 → product p t ≡ t * p
product-bit p zero hp lt =
    let e : 0 * p ≡ 0 = omega arith in
    product-times p 0 hp (omega arith) ∙ linear-zero (times_below double 128 p) (times-linear double double-linear 128 p) ∙ sym e
product-bit p (suc zero) hp lt =
    let e : 1 * p ≡ p = omega arith in
    product-times p 1 hp (omega arith) ∙ times-one double 128 p double-powers hp ∙ sym e
product-bit p (suc (suc t)) hp lt = absurd (omega arith)

-- a product by no polynomial
pub product-none : (q : ℕ) → q < 2 ^ 128 → product 0 q ≡ 0
product-none q lt = product-commutes 0 q (omega arith) lt ∙ product-bit q 0 lt (omega arith) ∙ omega arith

-- a power of x goes outside a product
pub product-shift : (p q k : ℕ) → p < 2 ^ 128 → q * 2 ^ k < 2 ^ 128 → product p (q * 2 ^ k) ≡ product p q * 2 ^ k
product-shift p q k hp hq =
    let small : q < 2 ^ 128 = omega (arith, shifted_le q (2 ^ k) (pow_pos k)) in
    product-times p (q * 2 ^ k) hp hq
    ∙ ap (times_below double 128 p) (sym (power-double k q))
    ∙ times-power double double-linear 128 p k q
    ∙ power-double k (times_below double 128 p q)
    ∙ ap (λ c. c * 2 ^ k) (sym (product-times p q hp small))

-- and on the left
pub product-shift_left : (p q k : ℕ) → p * 2 ^ k < 2 ^ 128 → q < 2 ^ 128 → product (p * 2 ^ k) q ≡ product p q * 2 ^ k
product-shift_left p q k hp hq =
    let small : p < 2 ^ 128 = omega (arith, shifted_le p (2 ^ k) (pow_pos k)) in
    product-commutes (p * 2 ^ k) q hp hq ∙ product-shift q p k hq hp
    ∙ ap (λ c. c * 2 ^ k) (product-commutes q p hq small)

-- factors of degree below a and b have a product of degree below a + b
pub product-narrow : (p q a b : ℕ) → a ≤ 128 → b ≤ 128 → p < 2 ^ a → q < 2 ^ b → product p q < 2 ^ (a + b)
product-narrow p q a b wa wb ha hb =
    let hp : p < 2 ^ 128 = widened p a 128 wa ha in
    let hq : q < 2 ^ 128 = widened q b 128 wb hb in
    let term : (i : ℕ) → i < 128 → bit_at p i * (q * 2 ^ i) < 2 ^ (a + b) = λ i lt.
    ⊎_elim
    (λ (low : i < a). pick-lt (bit_at p i) (q * 2 ^ i) (2 ^ (a + b)) (bit_at-lt p i) (pow_pos (a + b))
    (widened (q * 2 ^ i) (b + i) (a + b) (omega arith) (shl_below q b i hb)))
    (λ (high : a ≤ i). subst (λ t. t * (q * 2 ^ i) < 2 ^ (a + b)) (sym (bit_at_above p a i ha high)) (none (q * 2 ^ i) (a + b)))
    (cases_lt i a) in
    subst (λ c. c < 2 ^ (a + b)) (sym (product-multiples p q hp hq)) (xor_below-lt _ (a + b) 128 term)
