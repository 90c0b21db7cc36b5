-- Products of integers with holes: where factors have bits at every fourth place only, no sum of their products carries
-- as far as the next such place.
use Rattle.std.proofs.Common.{◌≡◌, ℕ, zero, suc, ◌+◌, ◌-◌, ◌*◌, ◌/◌, ◌%◌, ◌^◌, ◌<◌, ◌≤◌, bit_xor, refl, sym, ap, subst, ◌∙◌, arith, mod-lt, ⊎_elim}
use Rattle.std.specs.Int.{bit_at}
use Rattle.std.specs.Int.Bits.{xor_shifted, xor_comm}
use Rattle.std.proofs.Math.Nat.{mod-eq_of_lt}
use Rattle.std.proofs.lemmas.Bool.{cases_lt}
use Rattle.std.proofs.lemmas.Nat.{pow_pos, pow_below, pow-add, mul-le, mod-pow-add, shr-shr, shr_high, shr_split}
use Rattle.std.proofs.lemmas.Nat.Bits.{bit_at-zero, bit_at_xor}
use Rattle.ghash_field.specs.Polynomial.{product}
use Rattle.ghash_field.proofs.Product.{bit_at-shifted, bit_at-shifted_low, bit_at-pick}
use Rattle.ghash_field.proofs.ProductLaws.{product-linear_right, product-bit, product-shift}

-- n has bits at every fourth place only
abbrev pub HasHoles : ℕ → Type 0
HasHoles n = (i : ℕ) → 0 < i % 4 → bit_at n i ≡ 0

-- each group of four bits of n, as a number, is at most most
abbrev pub HasGroups : ℕ → ℕ → Type 0
HasGroups most n = (k : ℕ) → n / 2 ^ (4 * k) % 16 ≤ most

holes-groups : (n : ℕ) → HasHoles n → HasGroups 1 n
holes-groups n h k =
    let q : ℕ = n / 2 ^ (4 * k) in
    let bit : (j : ℕ) → 0 < j → j < 4 → q / 2 ^ j % 2 ≡ 0 = λ j pos lt.
    ap (λ m. m % 2) (shr-shr n (4 * k) j) ∙ h (4 * k + j) (omega arith) in
    omega (arith, bit 1 (omega arith) (omega arith), bit 2 (omega arith) (omega arith), bit 3 (omega arith) (omega arith))

-- one group more
no_carry_step : (a b p r q s t w : ℕ) → w ≡ 16 * p → s ≡ a * p + r → t ≡ b * p + q → (a + b) * p ≤ 15 * p → r + q < p → s + t < w
no_carry_step a b p r q s t w ew es et both low = omega arith

-- nothing is carried out of the lowest k groups of a sum
no_carry : (most s t : ℕ) → most < 15 → HasGroups most s → HasGroups 1 t → (k : ℕ) → s % 2 ^ (4 * k) + t % 2 ^ (4 * k) < 2 ^ (4 * k)
no_carry most s t lt hs ht zero = omega arith
no_carry most s t lt hs ht (suc k) =
    let p : ℕ = 2 ^ (4 * k) in
    let place : 4 * suc k ≡ 4 + 4 * k = omega arith in
    let power : 2 ^ (4 * suc k) ≡ 16 * p = ap (λ e. 2 ^ e) place ∙ pow-add 2 4 (4 * k) in
    let cut : (n : ℕ) → n % 2 ^ (4 * suc k) ≡ n / p % 16 * p + n % p = λ n. ap (λ e. n % 2 ^ e) place ∙ mod-pow-add n 4 (4 * k) in
    let groups : s / p % 16 + t / p % 16 ≤ 15 = omega (arith, hs k, ht k) in
    let both : (s / p % 16 + t / p % 16) * p ≤ 15 * p = mul-le (s / p % 16 + t / p % 16) p 15 p groups (omega arith) in
    no_carry_step (s / p % 16) (t / p % 16) p (s % p) (t % p) (s % 2 ^ (4 * suc k)) (t % 2 ^ (4 * suc k)) (2 ^ (4 * suc k)) power (cut s) (cut t) both (no_carry most s t lt hs ht k)

-- the two parts of a sum from a place on, where nothing is carried over it
sum_high : (s t k : ℕ) → s % 2 ^ k + t % 2 ^ k < 2 ^ k → (s + t) / 2 ^ k ≡ s / 2 ^ k + t / 2 ^ k
sum_high s t k lt =
    let p : ℕ = 2 ^ k in
    let whole : s + t ≡ (s / p + t / p) * p + (s % p + t % p) = omega (arith, shr_split s k, shr_split t k) in
    ap (λ n. n / p) whole ∙ shr_high (s / p + t / p) k (s % p + t % p) lt

groups_add : (most s t : ℕ) → most < 15 → HasGroups most s → HasGroups 1 t → HasGroups (suc most) (s + t)
groups_add most s t lt hs ht k =
    omega (arith, sum_high s t (4 * k) (no_carry most s t lt hs ht k), hs k, ht k)

bit_at-add : (most s t : ℕ) → most < 15 → HasGroups most s → HasGroups 1 t → (k : ℕ) → bit_at (s + t) (4 * k) ≡ (bit_at s (4 * k) + bit_at t (4 * k)) % 2
bit_at-add most s t lt hs ht k =
    ap (λ n. n % 2) (sum_high s t (4 * k) (no_carry most s t lt hs ht k)) ∙ omega arith

holes-zero : HasHoles 0
holes-zero i odd = bit_at-zero i

holes-xor : (s t : ℕ) → HasHoles s → HasHoles t → HasHoles (bit_xor s t)
holes-xor s t hs ht i odd = bit_at_xor s t i ∙ (λ j. (hs i odd j + ht i odd j) % 2)

holes-shift : (n k : ℕ) → HasHoles n → HasHoles (n * 2 ^ (4 * k))
holes-shift n k h i odd =
    ⊎_elim
    (λ (low : i < 4 * k). bit_at-shifted_low n (4 * k) i low)
    (λ (high : 4 * k ≤ i). bit_at-shifted n (4 * k) i high ∙ h (i - 4 * k) (omega arith))
    (cases_lt i (4 * k))

holes-pick : (t n : ℕ) → t < 2 → HasHoles n → HasHoles (t * n)
holes-pick t n lt h i odd = bit_at-pick t n i lt ∙ ap (λ c. t * c) (h i odd) ∙ omega arith

zero_shifted : (m : ℕ) → 0 / m ≡ 0
zero_shifted m = omega arith

-- the integer s counts the terms of the polynomial p, in groups of four bits of at most most
abbrev Counts : ℕ → ℕ → ℕ → Type 0
Counts most s p = HasGroups most s × ((k : ℕ) → bit_at s (4 * k) ≡ bit_at p (4 * k)) × HasHoles p

counts-zero : Counts 0 0 0
counts-zero = (λ k. omega (arith, zero_shifted (2 ^ (4 * k))), λ k. refl, holes-zero)

-- one term more
counts-more : (most s p t : ℕ) → most < 15 → Counts most s p → HasHoles t → Counts (suc most) (s + t) (bit_xor p t)
counts-more most s p t lt (groups, bits, holes) h =
    let one : HasGroups 1 t = holes-groups t h in (
      groups_add most s t lt groups one,
      λ k. bit_at-add most s t lt groups one k ∙ ap (λ c. (c + bit_at t (4 * k)) % 2) (bits k) ∙ sym (bit_at_xor p t (4 * k)),
      holes-xor p t holes h,
    )

-- the products by the lowest n groups of y
counts-product : (x y : ℕ) → x < 2 ^ 32 → HasHoles x → HasHoles y → (n : ℕ) → n ≤ 8 → Counts n (x * (y % 2 ^ (4 * n))) (product x (y % 2 ^ (4 * n)))
counts-product x y hx ox oy zero le =
    let none : y % 2 ^ (4 * 0) ≡ 0 = omega arith in
    let nothing : x * 0 ≡ 0 = omega arith in
    let empty : product x 0 ≡ 0 = product-bit x 0 (omega arith) (omega arith) ∙ omega arith in
    subst (λ m. Counts 0 (x * m) (product x m)) (sym none)
    (subst (λ s. Counts 0 s (product x 0)) (sym nothing) (subst (λ p. Counts 0 0 p) (sym empty) counts-zero))
counts-product x y hx ox oy (suc n) le =
    let p : ℕ = 2 ^ (4 * n) in
    let r : ℕ = y % p in
    let v : ℕ = y / p % 16 in
    let bit : v < 2 = omega (arith, holes-groups y oy n) in
    let place : 4 * suc n ≡ 4 + 4 * n = omega arith in
    let low : r < p = mod-lt y (pow_pos (4 * n)) in
    let whole : y % 2 ^ (4 * suc n) ≡ v * p + r = ap (λ e. y % 2 ^ e) place ∙ mod-pow-add y 4 (4 * n) in
    let sum : v * p + r ≡ bit_xor r (v * p) = sym (xor_shifted v (4 * n) r low) ∙ xor_comm (v * p) r in
    let small : p < 2 ^ 33 = pow_below (4 * n) 33 (omega arith) in
    let term : v * p < 2 ^ 128 = omega (arith, mul-le v p 1 p (omega arith) (omega arith)) in
    let single : product x (v * p) ≡ v * (x * p) =
    product-shift x v (4 * n) (omega arith) term ∙ ap (λ c. c * p) (product-bit x v (omega arith) bit) ∙ omega arith in
    let left : x * (v * p + r) ≡ x * r + v * (x * p) = omega arith in
    let right : product x (v * p + r) ≡ bit_xor (product x r) (v * (x * p)) =
    ap (product x) sum ∙ product-linear_right x r (v * p) (omega arith) (omega (arith, low, small)) term ∙ ap (bit_xor (product x r)) single in
    subst (λ m. Counts (suc n) (x * m) (product x m)) (sym whole)
    (subst (λ s. Counts (suc n) s (product x (v * p + r))) (sym left)
    (subst (λ q. Counts (suc n) (x * r + v * (x * p)) q) (sym right)
    (counts-more n (x * r) (product x r) (v * (x * p)) (omega arith) (counts-product x y hx ox oy n (omega arith))
    (holes-pick v (x * p) bit (holes-shift x n ox)))))

-- of all eight groups
counts-whole : (x y : ℕ) → x < 2 ^ 32 → y < 2 ^ 32 → HasHoles x → HasHoles y → Counts 8 (x * y) (product x y)
counts-whole x y hx hy ox oy =
    let whole : y % 2 ^ (4 * 8) ≡ y = mod-eq_of_lt hy in
    subst (λ m. Counts 8 (x * m) (product x m)) whole (counts-product x y hx ox oy 8 (omega arith))

-- the product of integers with holes has the bits of the product of polynomials where that has no holes
pub counted : (x y : ℕ) → x < 2 ^ 32 → y < 2 ^ 32 → HasHoles x → HasHoles y → (k : ℕ) → bit_at (x * y) (4 * k) ≡ bit_at (product x y) (4 * k)
counted x y hx hy ox oy = (counts-whole x y hx hy ox oy).1

pub product-holes : (x y : ℕ) → x < 2 ^ 32 → y < 2 ^ 32 → HasHoles x → HasHoles y → HasHoles (product x y)
product-holes x y hx hy ox oy = (counts-whole x y hx hy ox oy).2
