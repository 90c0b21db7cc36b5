-- Blocks and their polynomials.
use Rattle.std.proofs.Common.{◌≡◌, ℕ, zero, suc, ◌+◌, ◌-◌, ◌*◌, ◌/◌, ◌%◌, ◌^◌, ◌<◌, bit_xor, refl, sym, ap, ◌∙◌, arith, mod-lt}
use Rattle.std.specs.Int.{bit_at}
use Rattle.std.proofs.lemmas.Nat.{pow_pos, xor_lt, shr_split}
use Rattle.std.proofs.lemmas.Nat.Bits.{bit_at-lt, bit_at-suc, bit_at_lowest, bit_at_xor, bit_at_above, bit_at_cat_low, same_from_bits_below}
use Rattle.ghash_field.specs.Field.{reflected, block_product}
use Rattle.ghash_field.specs.Polynomial.{from_coefficients}
use Rattle.ghash_field.proofs.Algebra.{power_of, times_below}
use Rattle.ghash_field.proofs.Division.{times_x, times_x-word, power-lt}
use Rattle.ghash_field.proofs.Product.{from_coefficients-lt, bit_at-from_coefficients, remainder-product, pick-lt}
use Rattle.ghash_field.proofs.Sums.{xor_below-lt, IsLinear, linear-pick}

-- a reflected number has 128 bits
pub reflected-lt : (n : ℕ) → reflected n < 2 ^ 128
unfolding reflected
reflected-lt n = from_coefficients-lt _ 128

-- its bit i is bit 127 - i
pub bit_at-reflected : (n i : ℕ) → i < 128 → bit_at (reflected n) i ≡ bit_at n (127 - i)
unfolding reflected
bit_at-reflected n i lt = bit_at-from_coefficients _ 128 i lt ∙ omega (arith, bit_at-lt n (127 - i))

-- reflected twice, a block is itself
pub reflected-reflected : (n : ℕ) → n < 2 ^ 128 → reflected (reflected n) ≡ n
reflected-reflected n h =
    same_from_bits_below 128 _ _ (reflected-lt (reflected n)) h (λ i lt.
    let back : 127 - (127 - i) ≡ i = omega arith in
    bit_at-reflected (reflected n) i lt ∙ bit_at-reflected n (127 - i) (omega arith) ∙ ap (bit_at n) back)

-- the sum reflected is the sum of the reflected
pub reflected-linear : IsLinear reflected
reflected-linear a b =
    same_from_bits_below 128 _ _ (reflected-lt (bit_xor a b)) (xor_lt 128 _ _ (reflected-lt a) (reflected-lt b)) (λ i lt.
    bit_at-reflected (bit_xor a b) i lt ∙ bit_at_xor a b (127 - i)
    ∙ (λ j. (sym (bit_at-reflected a i lt) j + sym (bit_at-reflected b i lt) j) % 2)
    ∙ sym (bit_at_xor (reflected a) (reflected b) i))

-- a number cut to k bits has its bits below k
bit_at-mod : (n k i : ℕ) → i < k → bit_at (n % 2 ^ k) i ≡ bit_at n i
bit_at-mod n k i lt = sym (bit_at_cat_low (n / 2 ^ k) k (n % 2 ^ k) i lt) ∙ ap (λ y. bit_at y i) (shr_split n k)

-- the step of the product, on blocks
half_bit : (v : ℕ) → v < 2 ^ 128 → (i : ℕ) → i < 128 → bit_at v (suc (127 - i)) ≡ bit_at (reflected v * 2 % 2 ^ 128) i
half_bit v h zero lt = bit_at_above v 128 128 h (omega arith) ∙ omega (arith, bit_at_lowest (reflected v * 2 % 2 ^ 128))
half_bit v h (suc i) lt =
    let half : reflected v * 2 % 2 ^ 128 / 2 ≡ reflected v % 2 ^ 127 = omega arith in
    let place : suc (127 - suc i) ≡ 127 - i = omega arith in
    ap (bit_at v) place ∙ sym (bit_at-reflected v i (omega arith))
    ∙ sym (bit_at-mod (reflected v) 127 i (omega arith))
    ∙ ap (λ y. bit_at y i) (sym half) ∙ sym (bit_at-suc (reflected v * 2 % 2 ^ 128) i)

-- the code's constant is the modulus without its highest term
reflected_reduction : reflected (0xe1 * 2 ^ 120) ≡ 0x87
unfolding reflected from_coefficients
reflected_reduction = refl

-- a product by powers of x has degree below 128
pub times-lt : (p q : ℕ) → q < 2 ^ 128 → times_below times_x 128 p q < 2 ^ 128
unfolding times_below
times-lt p q h = xor_below-lt _ 128 128 (λ k lt. pick-lt (bit_at p k) (power_of times_x k q) (2 ^ 128) (bit_at-lt p k) (pow_pos 128) (power-lt k q h))

-- a block moved to the right is its polynomial times x, cut to 128 bits
reflected-half : (v : ℕ) → v < 2 ^ 128 → reflected (v / 2) ≡ reflected v * 2 % 2 ^ 128
reflected-half v h =
    same_from_bits_below 128 _ _ (reflected-lt (v / 2)) (mod-lt _ (pow_pos 128)) (λ i lt.
    bit_at-reflected (v / 2) i lt ∙ sym (bit_at-suc v (127 - i)) ∙ half_bit v h i lt)

-- the code's step is multiplication by x
pub reflected-step : (v : ℕ) → v < 2 ^ 128 → reflected (bit_xor (v / 2) (v % 2 * (0xe1 * 2 ^ 120))) ≡ times_x (reflected v)
reflected-step v h =
    let low : bit_at (reflected v) 127 ≡ v % 2 = bit_at-reflected v 127 (omega arith) ∙ bit_at_lowest v in
    let seven : reflected (0xe1 * 2 ^ 120) ≡ 0x87 = reflected_reduction in
    reflected-linear (v / 2) (v % 2 * (0xe1 * 2 ^ 120))
    ∙ (λ i. bit_xor (reflected-half v h i) (linear-pick reflected reflected-linear (v % 2) (0xe1 * 2 ^ 120) (omega arith) i))
    ∙ (λ i. bit_xor (reflected v * 2 % 2 ^ 128) (sym low i * seven i))
    ∙ sym (times_x-word (reflected v) (reflected-lt v))

-- the product on blocks, by powers of x
pub reflected-product : (a b : ℕ) → reflected (block_product a b) ≡ times_below times_x 128 (reflected a) (reflected b)
unfolding block_product
reflected-product a b =
    let small : times_below times_x 128 (reflected a) (reflected b) < 2 ^ 128 = times-lt (reflected a) (reflected b) (reflected-lt b) in
    ap (λ c. reflected (reflected c)) (remainder-product (reflected a) (reflected b) (reflected-lt a) (reflected-lt b))
    ∙ reflected-reflected _ small

-- a product of blocks is a block
pub product-lt : (a b : ℕ) → block_product a b < 2 ^ 128
unfolding block_product
product-lt a b = reflected-lt _

-- two blocks with one polynomial are equal
pub same_from_reflected : (a b : ℕ) → a < 2 ^ 128 → b < 2 ^ 128 → reflected a ≡ reflected b → a ≡ b
same_from_reflected a b ha hb e = sym (reflected-reflected a ha) ∙ ap reflected e ∙ reflected-reflected b hb
