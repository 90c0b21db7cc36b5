-- The product of blocks from the product of polynomials: twice it, folded.
use Rattle.std.proofs.Common.{◌≡◌, ℕ, zero, suc, ◌+◌, ◌-◌, ◌*◌, ◌/◌, ◌%◌, ◌^◌, ◌<◌, ◌≤◌, bit_xor, sym, ap, ◌∙◌, arith, mod-lt}
use Rattle.std.specs.Int.{bit_at}
use Rattle.std.proofs.Math.Nat.{pow-suc}
use Rattle.std.proofs.lemmas.Nat.{pow_pos, pow-add, shr-shr, xor_shr, xor_mod, mod-pow-add}
use Rattle.std.proofs.lemmas.Nat.Bits.{bit_at-lt}
use Rattle.std.specs.Int.Bits.{xor_zero_r, xor_assoc, xor_shifted}
use Rattle.ghash_field.specs.Field.{block_product}
use Rattle.ghash_field.specs.Steps.{block_step, folded}
use Rattle.ghash_field.specs.Polynomial.{product}
use Rattle.ghash_field.proofs.Algebra.{power_of, times_below, times-one}
use Rattle.ghash_field.proofs.BlockSteps.{halved, zero-product, block_step-linear, block-power}
use Rattle.ghash_field.proofs.Division.{times_x, double-xor, powers}
use Rattle.ghash_field.proofs.FieldLaws.{product-linear, one-product}
use Rattle.ghash_field.proofs.Product.{from_coefficients-lt, product-multiples}
use Rattle.ghash_field.proofs.Sums.{xor_below, xor_below-same, xor_swap, IsLinear, linear-pick, linear-sum}

-- the block of x ^ 128
abbrev pub reduction : ℕ
reduction = 0xe1 * 2 ^ 120

-- folding is linear
pub folded-linear : IsLinear folded
unfolding folded
folded-linear a b =
    let high : ℕ = bit_xor (a / 2 ^ 128) (b / 2 ^ 128) in
    (λ i. bit_xor (xor_shr a b 128 i) (block_product (xor_mod a b 128 i) reduction))
    ∙ ap (bit_xor high) (product-linear (a % 2 ^ 128) (b % 2 ^ 128) reduction)
    ∙ xor_swap (a / 2 ^ 128) (b / 2 ^ 128) (block_product (a % 2 ^ 128) reduction) (block_product (b % 2 ^ 128) reduction)

-- half of what is folded gives a step more
pub folded-half : (y : ℕ) → folded y ≡ block_step (folded (y * 2))
unfolding folded block_step
folded-half y =
    let t : ℕ = y / 2 ^ 127 % 2 in
    let w : ℕ = y % 2 ^ 127 in
    let bit : t < 2 = omega arith in
    let small : w * 2 < 2 ^ 128 = omega (arith, mod-lt y (pow_pos 127)) in
    let above : y * 2 / 2 ^ 128 ≡ y / 2 ^ 127 = omega arith in
    let below : y * 2 % 2 ^ 128 ≡ w * 2 = omega arith in
    let top : y / 2 ^ 127 / 2 ≡ y / 2 ^ 128 = shr-shr y 127 1 in
    let parts : y % 2 ^ 128 ≡ bit_xor (t * 2 ^ 127) w = mod-pow-add y 1 127 ∙ sym (xor_shifted t 127 w (mod-lt y (pow_pos 127))) in
    let carried : block_product (t * 2 ^ 127) reduction ≡ t * reduction =
    linear-pick (λ c. block_product c reduction) (λ a b. product-linear a b reduction) t (2 ^ 127) bit
    ∙ ap (λ c. t * c) (one-product reduction (omega arith)) in
    let low : block_product (y % 2 ^ 128) reduction ≡ bit_xor (t * reduction) (block_product w reduction) =
    ap (λ c. block_product c reduction) parts ∙ product-linear (t * 2 ^ 127) w reduction
    ∙ ap (λ c. bit_xor c (block_product w reduction)) carried in
    let step : block_step (block_product (y * 2 % 2 ^ 128) reduction) ≡ block_product w reduction =
    halved reduction w (block_product (y * 2 % 2 ^ 128) reduction) small (ap (λ c. block_product c reduction) below) in
    let first : block_step (y * 2 / 2 ^ 128) ≡ bit_xor (y / 2 ^ 128) (t * reduction) =
    ap block_step above ∙ ap (λ c. bit_xor c (t * reduction)) top in
    ap (bit_xor (y / 2 ^ 128)) low
    ∙ sym (xor_assoc (y / 2 ^ 128) (t * reduction) (block_product w reduction))
    ∙ (λ i. bit_xor (sym first i) (sym step i))
    ∙ sym (block_step-linear (y * 2 / 2 ^ 128) (block_product (y * 2 % 2 ^ 128) reduction))

-- and a part of it by 2 ^ k gives k steps more
pub folded-power : (k y : ℕ) → folded y ≡ power_of block_step k (folded (y * 2 ^ k))
unfolding power_of
folded-power zero y = let e : y ≡ y * 2 ^ 0 = omega arith in ap folded e
folded-power (suc k) y =
    let e : y * 2 * 2 ^ k ≡ y * 2 ^ suc k = sym (ap (λ z. y * z) (pow-suc 2 k) ∙ omega arith) in
    folded-half y ∙ ap block_step (folded-power k (y * 2)) ∙ ap (λ c. block_step (power_of block_step k (folded c))) e

-- the upper half alone
folded-block : (h : ℕ) → folded (h * 2 ^ 128) ≡ h
unfolding folded
folded-block h =
    let high : h * 2 ^ 128 / 2 ^ 128 ≡ h = omega arith in
    let low : h * 2 ^ 128 % 2 ^ 128 ≡ 0 = omega arith in
    (λ i. bit_xor (high i) (block_product (low i) reduction))
    ∙ ap (bit_xor h) (zero-product reduction) ∙ xor_zero_r h

-- a block k places below the upper half
pub folded-shifted : (k h : ℕ) → k ≤ 128 → folded (h * 2 ^ (128 - k)) ≡ power_of block_step k h
folded-shifted k h le =
    let sum : 128 - k + k ≡ 128 = omega arith in
    let power : 2 ^ (128 - k) * 2 ^ k ≡ 2 ^ 128 = sym (pow-add 2 (128 - k) k) ∙ ap (λ j. 2 ^ j) sum in
    let whole : h * 2 ^ (128 - k) * 2 ^ k ≡ h * 2 ^ 128 = omega arith ∙ ap (λ c. h * c) power in
    folded-power k (h * 2 ^ (128 - k))
    ∙ ap (λ c. power_of block_step k (folded c)) whole ∙ ap (power_of block_step k) (folded-block h)

-- a block is the sum of its bits
sum_of_bits : (a : ℕ) → a < 2 ^ 128 → xor_below (λ k. bit_at a k * 2 ^ k) 128 ≡ a
unfolding times_below
sum_of_bits a lt = xor_below-same _ _ 128 (λ k less. ap (λ c. bit_at a k * c) (sym (powers k less))) ∙ times-one times_x 128 a powers lt

-- the product of a block by one bit
one_bit : (h i : ℕ) → h < 2 ^ 128 → i < 128 → folded (h * 2 ^ i * 2) ≡ block_product (2 ^ i) h
one_bit h i lt less =
    let k : ℕ = 127 - i in
    let place : suc i ≡ 128 - k = omega arith in
    let back : 127 - k ≡ i = omega arith in
    let e : h * 2 ^ i * 2 ≡ h * 2 ^ suc i = sym (ap (λ z. h * z) (pow-suc 2 i) ∙ omega arith) in
    ap folded e ∙ ap (λ j. folded (h * 2 ^ j)) place ∙ folded-shifted k h (omega arith)
    ∙ sym (block-power k h (omega arith) lt) ∙ ap (λ j. block_product (2 ^ j) h) back

-- the product of two blocks
pub folded-product : (a h : ℕ) → a < 2 ^ 128 → h < 2 ^ 128 → folded (product a h * 2) ≡ block_product a h
folded-product a h ha hh =
    ap (λ c. folded (c * 2)) (product-multiples a h ha hh)
    ∙ linear-sum (λ c. folded (c * 2)) (λ b c. ap folded (double-xor b c) ∙ folded-linear (b * 2) (c * 2)) (bit_at a) (λ i. h * 2 ^ i) (bit_at-lt a) 128
    ∙ xor_below-same _ _ 128 (λ i lt. ap (λ c. bit_at a i * c) (one_bit h i hh lt))
    ∙ sym (linear-sum (λ c. block_product c h) (λ b c. product-linear b c h) (bit_at a) (λ i. 2 ^ i) (bit_at-lt a) 128)
    ∙ ap (λ c. block_product c h) (sum_of_bits a ha)

-- a product of polynomials has degree below 255
pub product-below : (p q : ℕ) → product p q < 2 ^ 255
unfolding product
product-below p q = from_coefficients-lt _ 255

-- a polynomial of degree below 255 in two halves
pub halves-folded : (p high low r : ℕ) → p < 2 ^ 255 → high ≡ p / 2 ^ 128 → low ≡ p % 2 ^ 128
    → (high < 2 ^ 127 → r ≡ folded ((high * 2 ^ 128 + low) * 2)) → r ≡ folded (p * 2)
halves-folded p high low r lt eh el e =
    let short : high < 2 ^ 127 = omega arith in
    let whole : high * 2 ^ 128 + low ≡ p = omega arith in
    e short ∙ ap (λ z. folded (z * 2)) whole
