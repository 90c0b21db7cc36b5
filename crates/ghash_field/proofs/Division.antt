-- The remainder by the modulus, and one step of multiplication by x.
use Rattle.std.proofs.Common.{◌≡◌, ℕ, zero, suc, ◌+◌, ◌*◌, ◌/◌, ◌%◌, ◌^◌, ◌<◌, ◌≤◌, bit_xor, refl, sym, ap, ◌∙◌, arith, mod-lt}
use Rattle.std.specs.Int.{bit_at}
use Rattle.std.proofs.Math.Nat.{pow-suc}
use Rattle.std.proofs.lemmas.Nat.{pow_pos, pow_below, xor_lt, xor_block}
use Rattle.std.proofs.lemmas.Nat.Bits.{bit_at-lt, bit_at-suc, bit_at_xor, bit_at_above}
use Rattle.std.specs.Int.Bits.{xor_zero_r, xor_self}
use Rattle.ghash_field.specs.Polynomial.{modulus, remainder, without_term}
use Rattle.ghash_field.proofs.Algebra.{power_of, HasPowers}
use Rattle.ghash_field.proofs.Sums.{IsLinear, pick_xor, xor_swap}

-- one step of the division is linear
without_term-linear : (n : ℕ) → IsLinear (λ p. without_term p n)
without_term-linear n a b =
    let m : ℕ = modulus * 2 ^ n in
    ap (λ t. bit_xor (bit_xor a b) (t * m)) (bit_at_xor a b (128 + n))
    ∙ ap (bit_xor (bit_xor a b)) (pick_xor (bit_at a (128 + n)) (bit_at b (128 + n)) m (bit_at-lt a (128 + n)) (bit_at-lt b (128 + n)))
    ∙ xor_swap a b (bit_at a (128 + n) * m) (bit_at b (128 + n) * m)

-- the remainder of a sum is the sum of the remainders
pub remainder-linear : (n : ℕ) → IsLinear (λ p. remainder p n)
unfolding remainder
remainder-linear zero a b = refl
remainder-linear (suc n) a b =
    ap (λ p. remainder p n) (without_term-linear n a b) ∙ remainder-linear n (without_term a n) (without_term b n)

-- a polynomial of degree below 128, times x
unfoldable pub times_x : ℕ → ℕ
times_x p = without_term (p * 2) 0

-- twice a sum is the sum of the doubles
pub double-xor : (a b : ℕ) → bit_xor a b * 2 ≡ bit_xor (a * 2) (b * 2)
double-xor a b =
    let e : (c : ℕ) → c * 2 ≡ c * 2 ^ 1 + 0 = λ c. omega arith in
    e (bit_xor a b) ∙ sym (xor_block 1 a b 0 0 (omega arith) (omega arith)) ∙ (λ i. bit_xor (sym (e a) i) (sym (e b) i))

-- and multiplication by x is linear
pub times_x-linear : IsLinear times_x
unfolding times_x
times_x-linear a b = ap (λ p. without_term p 0) (double-xor a b) ∙ without_term-linear 0 (a * 2) (b * 2)

-- the bits of a double are one place higher
bit_at-double : (p i : ℕ) → bit_at (p * 2) (suc i) ≡ bit_at p i
bit_at-double p i = let e : p * 2 / 2 ≡ p = omega arith in bit_at-suc (p * 2) i ∙ ap (λ y. bit_at y i) e

-- a step of the division of x p is x times a step of the division of p
without_term-double : (p n : ℕ) → without_term (p * 2) (suc n) ≡ without_term p n * 2
without_term-double p n =
    let t : ℕ = bit_at p (128 + n) in
    let place : 128 + suc n ≡ suc (128 + n) = omega arith in
    let bit : bit_at (p * 2) (128 + suc n) ≡ t = ap (bit_at (p * 2)) place ∙ bit_at-double p (128 + n) in
    let twice : modulus * 2 ^ suc n ≡ modulus * 2 ^ n * 2 = omega (arith, pow-suc 2 n) in
    let moved : t * (modulus * 2 ^ n * 2) ≡ t * (modulus * 2 ^ n) * 2 = omega arith in
    (λ i. bit_xor (p * 2) (bit i * twice i)) ∙ ap (bit_xor (p * 2)) moved ∙ sym (double-xor p (t * (modulus * 2 ^ n)))

-- the remainder of x p is x times the remainder of p, reduced
pub remainder-double : (n p : ℕ) → remainder (p * 2) (suc n) ≡ times_x (remainder p n)
unfolding remainder times_x
remainder-double zero p = refl
remainder-double (suc n) p = ap (λ q. remainder q (suc n)) (without_term-double p n) ∙ remainder-double n (without_term p n)

-- a polynomial of degree below 128 has no term above
bit_above : (p i : ℕ) → p < 2 ^ 128 → bit_at p (128 + i) ≡ 0
bit_above p i h = bit_at_above p 128 (128 + i) h (omega arith)

-- a polynomial of degree below 128 is its own remainder
pub remainder-same : (n p : ℕ) → p < 2 ^ 128 → remainder p n ≡ p
unfolding remainder
remainder-same zero p h = refl
remainder-same (suc n) p h =
    let m : ℕ = modulus * 2 ^ n in
    let none : 0 * m ≡ 0 = omega arith in
    let same : without_term p n ≡ p = ap (λ t. bit_xor p (t * m)) (bit_above p n h) ∙ ap (bit_xor p) none ∙ xor_zero_r p in
    ap (λ q. remainder q n) same ∙ remainder-same n p h

-- the remainder of p x ^ k is x applied k times to p
pub remainder-power : (k n p : ℕ) → k ≤ n → p < 2 ^ 128 → remainder (p * 2 ^ k) n ≡ power_of times_x k p
unfolding power_of
remainder-power zero n p le h = let e : p * 2 ^ 0 ≡ p = omega arith in ap (λ q. remainder q n) e ∙ remainder-same n p h
remainder-power (suc k) zero p le h = absurd (omega arith)
remainder-power (suc k) (suc n) p le h =
    let e : p * 2 ^ suc k ≡ p * 2 ^ k * 2 = ap (λ y. p * y) (pow-suc 2 k) ∙ omega arith in
    ap (λ q. remainder q (suc n)) e ∙ remainder-double n (p * 2 ^ k) ∙ ap times_x (remainder-power k n p (omega arith) h)

-- the step in words of 128 bits
pub times_x-word : (p : ℕ) → p < 2 ^ 128 → times_x p ≡ bit_xor (p * 2 % 2 ^ 128) (bit_at p 127 * 0x87)
unfolding times_x
times_x-word p h =
    let t : ℕ = bit_at p 127 in
    let r : ℕ = p * 2 % 2 ^ 128 in
    let lt : t < 2 = bit_at-lt p 127 in
    let bit : bit_at (p * 2) 128 ≡ t = bit_at-double p 127 in
    let split : p * 2 ≡ t * 2 ^ 128 + r = omega arith in
    let whole : t * (modulus * 2 ^ 0) ≡ t * 2 ^ 128 + t * 0x87 = omega arith in
    (λ i. bit_xor (split i) (bit i * (modulus * 2 ^ 0))) ∙ ap (bit_xor (t * 2 ^ 128 + r)) whole
    ∙ xor_block 128 t t r (t * 0x87) (mod-lt (p * 2) (pow_pos 128)) (omega arith)
    ∙ (let e : 0 * 2 ^ 128 + bit_xor r (t * 0x87) ≡ bit_xor r (t * 0x87) = omega arith in ap (λ z. z * 2 ^ 128 + bit_xor r (t * 0x87)) (xor_self t) ∙ e)

-- x p, reduced, has degree below 128
pub times_x-lt : (p : ℕ) → p < 2 ^ 128 → times_x p < 2 ^ 128
times_x-lt p h =
    let low : bit_at p 127 * 0x87 < 2 ^ 128 = omega (arith, bit_at-lt p 127) in
    let both : bit_xor (p * 2 % 2 ^ 128) (bit_at p 127 * 0x87) < 2 ^ 128 = xor_lt 128 _ _ (mod-lt (p * 2) (pow_pos 128)) low in
    rw (times_x-word p h) both

-- and so has x ^ k p
pub power-lt : (k p : ℕ) → p < 2 ^ 128 → power_of times_x k p < 2 ^ 128
unfolding power_of
power-lt zero p h = h
power-lt (suc k) p h = times_x-lt _ (power-lt k p h)

-- x ^ k at 1 is 2 ^ k, for k below 128
pub powers : HasPowers times_x 128
powers k lt =
    let small : 1 * 2 ^ k < 2 ^ 128 = omega (arith, pow_below k 128 lt) in
    let e : 1 * 2 ^ k ≡ 2 ^ k = omega arith in
    sym (remainder-power k k 1 (omega arith) (omega arith)) ∙ remainder-same k (1 * 2 ^ k) small ∙ e
