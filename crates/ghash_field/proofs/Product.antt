-- The product of polynomials as a sum of multiples of one of them, and its remainder.
use Rattle.std.proofs.Common.{◌≡◌, ℕ, zero, suc, ◌+◌, ◌-◌, ◌*◌, ◌%◌, ◌^◌, ◌<◌, ◌≤◌, refl, sym, ap, subst, ◌∙◌, arith, ⊎_elim}
use Rattle.std.specs.Int.{bit_at}
use Rattle.std.proofs.Math.Nat.{pow-suc}
use Rattle.std.proofs.lemmas.Bool.{cases_lt}
use Rattle.std.proofs.lemmas.Nat.{pow_pos, pow_below, shl_below}
use Rattle.std.proofs.lemmas.Nat.Bits.{bit_at-lt, bit_at-zero, bit_at_xor, bit_at_above, bit_at_cat_low, bit_at_cat_high, same_from_bits_below}
use Rattle.ghash_field.specs.Polynomial.{remainder, product, sum_below, from_coefficients, coefficient_of_product}
use Rattle.ghash_field.proofs.Algebra.{times_below}
use Rattle.ghash_field.proofs.Division.{times_x, remainder-linear, remainder-power}
use Rattle.ghash_field.proofs.Sums.{xor_below, xor_below-same, xor_below-lt, linear-sum}

-- a bit in front of r, which is below p, is below twice p
pick_top : (t p r b : ℕ) → t < 2 → r < p → b ≡ p * 2 → t * p + r < b
pick_top zero p r b h lt e = omega arith
pick_top (suc zero) p r b h lt e = omega arith
pick_top (suc (suc t)) p r b h lt e = absurd (omega arith)

-- the lowest bit of a bit
bit_zero : (n : ℕ) → bit_at (n % 2) 0 ≡ n % 2
bit_zero n = omega arith

-- a polynomial of n coefficients has degree below n
pub from_coefficients-lt : (f : ℕ → ℕ) (n : ℕ) → from_coefficients f n < 2 ^ n
unfolding from_coefficients
from_coefficients-lt f zero = omega arith
from_coefficients-lt f (suc n) =
    let low : from_coefficients f n < 2 ^ n = from_coefficients-lt f n in
    let bit : f n % 2 < 2 = omega arith in
    pick_top (f n % 2) (2 ^ n) (from_coefficients f n) (2 ^ suc n) bit low (pow-suc 2 n)

-- its bits are the coefficients modulo 2
pub bit_at-from_coefficients : (f : ℕ → ℕ) (n i : ℕ) → i < n → bit_at (from_coefficients f n) i ≡ f i % 2
unfolding from_coefficients
bit_at-from_coefficients f zero i lt = absurd (omega arith)
bit_at-from_coefficients f (suc n) i lt =
    ⊎_elim
    (λ (below : i < n). bit_at_cat_low (f n % 2) n (from_coefficients f n) i below ∙ bit_at-from_coefficients f n i below)
    (λ (above : n ≤ i).
    let at : i ≡ n = omega arith in
    let none : n - n ≡ 0 = omega arith in
    ap (bit_at (f n % 2 * 2 ^ n + from_coefficients f n)) at
    ∙ bit_at_cat_high (f n % 2) n (from_coefficients f n) n (from_coefficients-lt f n) (omega arith)
    ∙ ap (bit_at (f n % 2)) none ∙ bit_zero (f n) ∙ ap (λ j. f j % 2) (sym at))
    (cases_lt i n)

-- the bit of a sum is the sum of the bits modulo 2
bit_at-xor_below : (f : ℕ → ℕ) (n i : ℕ) → bit_at (xor_below f n) i ≡ sum_below (λ k. bit_at (f k) i) n % 2
unfolding xor_below sum_below
bit_at-xor_below f zero i = bit_at-zero i
bit_at-xor_below f (suc n) i =
    bit_at_xor (xor_below f n) (f n) i ∙ ap (λ y. (y + bit_at (f n) i) % 2) (bit_at-xor_below f n i) ∙ omega arith

-- equal terms have equal sums
sum_below-same : (f g : ℕ → ℕ) (n : ℕ) → ((k : ℕ) → k < n → f k ≡ g k) → sum_below f n ≡ sum_below g n
unfolding sum_below
sum_below-same f g zero h = refl
sum_below-same f g (suc n) h =
    let fold : sum_below f n ≡ sum_below g n = sum_below-same f g n (λ k lt. h k (omega arith)) in
    let last : f n ≡ g n = h n (omega arith) in
    λ i. fold i + last i

-- terms that are 0 add nothing
sum_below-stable : (f : ℕ → ℕ) (m d : ℕ) → ((k : ℕ) → m ≤ k → f k ≡ 0) → sum_below f (d + m) ≡ sum_below f m
unfolding sum_below
sum_below-stable f m zero h = let e : 0 + m ≡ m = omega arith in ap (sum_below f) e
sum_below-stable f m (suc d) h =
    let e : suc d + m ≡ suc (d + m) = omega arith in
    let none : f (d + m) ≡ 0 = h (d + m) (omega arith) in
    let fold : sum_below f (d + m) ≡ sum_below f m = sum_below-stable f m d h in
    ap (sum_below f) e ∙ omega (arith, none, fold)

-- the bits of a multiple by a power of x
pub bit_at-shifted : (q i k : ℕ) → i ≤ k → bit_at (q * 2 ^ i) k ≡ bit_at q (k - i)
bit_at-shifted q i k le =
    let e : q * 2 ^ i ≡ q * 2 ^ i + 0 = omega arith in
    ap (λ y. bit_at y k) e ∙ bit_at_cat_high q i 0 k (pow_pos i) le

-- a multiple by x ^ i has no term below x ^ i
pub bit_at-shifted_low : (q i k : ℕ) → k < i → bit_at (q * 2 ^ i) k ≡ 0
bit_at-shifted_low q i k lt =
    let e : q * 2 ^ i ≡ q * 2 ^ i + 0 = omega arith in
    ap (λ y. bit_at y k) e ∙ bit_at_cat_low q i 0 k lt ∙ bit_at-zero k

-- the bit of a choice of m or 0
pub bit_at-pick : (t m k : ℕ) → t < 2 → bit_at (t * m) k ≡ t * bit_at m k
bit_at-pick zero m k h = let e : 0 * m ≡ 0 = omega arith in ap (λ y. bit_at y k) e ∙ bit_at-zero k ∙ omega arith
bit_at-pick (suc zero) m k h = let e : 1 * m ≡ m = omega arith in ap (λ y. bit_at y k) e ∙ omega arith
bit_at-pick (suc (suc t)) m k h = absurd (omega arith)

-- p q is the sum of p's terms times q
abbrev pub multiples : ℕ → ℕ → ℕ
multiples p q = xor_below (λ i. bit_at p i * (q * 2 ^ i)) 128

-- its bits are the coefficients of the product
bit_at-multiples : (p q k : ℕ) → p < 2 ^ 128 → bit_at (multiples p q) k ≡ coefficient_of_product p q k % 2
bit_at-multiples p q k h =
    let f : ℕ → ℕ = λ i. bit_at p i * bit_at (q * 2 ^ i) k in
    let past_p : (i : ℕ) → 128 ≤ i → f i ≡ 0 = λ i le. ap (λ t. t * bit_at (q * 2 ^ i) k) (bit_at_above p 128 i h le) ∙ omega arith in
    let past_k : (i : ℕ) → k + 1 ≤ i → f i ≡ 0 = λ i le. ap (λ t. bit_at p i * t) (bit_at-shifted_low q i k (omega arith)) ∙ omega arith in
    let swap : (k + 1) + 128 ≡ 128 + (k + 1) = omega arith in
    let whole : sum_below f 128 ≡ sum_below f (k + 1) = sym (sum_below-stable f 128 (k + 1) past_p) ∙ ap (sum_below f) swap ∙ sum_below-stable f (k + 1) 128 past_k in
    bit_at-xor_below (λ i. bit_at p i * (q * 2 ^ i)) 128 k
    ∙ ap (λ y. y % 2) (
    sum_below-same _ _ 128 (λ i lt. bit_at-pick (bit_at p i) (q * 2 ^ i) k (bit_at-lt p i))
    ∙ whole
    ∙ sum_below-same _ _ (k + 1) (λ i lt. ap (λ t. bit_at p i * t) (bit_at-shifted q i k (omega arith))))

-- a choice of m or 0 is below what m is below
pub pick-lt : (t m b : ℕ) → t < 2 → 0 < b → m < b → t * m < b
pick-lt zero m b h pos lt = omega arith
pick-lt (suc zero) m b h pos lt = omega arith
pick-lt (suc (suc t)) m b h pos lt = absurd (omega arith)

-- a multiple of q by a term of degree below 128 has degree below 255
multiple-lt : (q i : ℕ) → q < 2 ^ 128 → i < 128 → q * 2 ^ i < 2 ^ 255
multiple-lt q i h lt =
    let grown : q * 2 ^ i < 2 ^ (128 + i) = shl_below q 128 i h in
    let le : 2 ^ (128 + i) < 2 ^ 256 = pow_below (128 + i) 256 (omega arith) in
    ⊎_elim
    (λ (low : i < 127). omega (arith, grown, pow_below (128 + i) 255 (omega arith)))
    (λ (high : 127 ≤ i). let at : i ≡ 127 = omega arith in subst (λ j. q * 2 ^ i < 2 ^ (128 + j)) at grown)
    (cases_lt i 127)

-- the product is that sum
pub product-multiples : (p q : ℕ) → p < 2 ^ 128 → q < 2 ^ 128 → product p q ≡ multiples p q
unfolding product
product-multiples p q hp hq =
    let right : multiples p q < 2 ^ 255 = xor_below-lt _ 255 128 (λ i lt. pick-lt (bit_at p i) (q * 2 ^ i) (2 ^ 255) (bit_at-lt p i) (pow_pos 255) (multiple-lt q i hq lt)) in
    same_from_bits_below 255 _ _ (from_coefficients-lt _ 255) right
    (λ k lt. bit_at-from_coefficients _ 255 k lt ∙ sym (bit_at-multiples p q k hp))

-- the remainder of a product, by powers of x
pub remainder-product : (p q : ℕ) → p < 2 ^ 128 → q < 2 ^ 128 → remainder (product p q) 127 ≡ times_below times_x 128 p q
unfolding times_below
remainder-product p q hp hq =
    ap (λ c. remainder c 127) (product-multiples p q hp hq)
    ∙ linear-sum (λ c. remainder c 127) (remainder-linear 127) (bit_at p) (λ i. q * 2 ^ i) (bit_at-lt p) 128
    ∙ xor_below-same _ _ 128 (λ i lt. ap (λ y. bit_at p i * y) (remainder-power i 127 q (omega arith) hq))
