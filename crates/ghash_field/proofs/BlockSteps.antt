-- The step of a product of blocks, by x.
use Rattle.std.proofs.Common.{◌≡◌, ℕ, zero, suc, ◌+◌, ◌-◌, ◌*◌, ◌/◌, ◌%◌, ◌^◌, ◌<◌, bit_xor, refl, sym, ap, subst, ◌∙◌, arith}
use Rattle.std.proofs.Math.Nat.{pow-suc}
use Rattle.std.proofs.lemmas.Nat.{pow-add, shl-shr, shr_le, xor_lt, xor_shr}
use Rattle.std.proofs.lemmas.Nat.Bits.{bit_at_lowest, bit_at_xor}
use Rattle.std.specs.Int.Bits.{xor_zero_l, xor_zero_r, xor_self}
use Rattle.ghash_field.specs.Field.{reflected, block_product}
use Rattle.ghash_field.specs.Steps.{block_step}
use Rattle.ghash_field.proofs.Algebra.{power_of, power_of-inside, times_below, times-comm, times-inside}
use Rattle.ghash_field.proofs.Division.{times_x, times_x-linear, times_x-lt, powers}
use Rattle.ghash_field.proofs.FieldLaws.{product-linear, one-product}
use Rattle.ghash_field.proofs.Sums.{IsLinear, pick_xor, xor_swap}
use Rattle.ghash_field.proofs.Reflected.{reflected-lt, reflected-step, reflected-product, product-lt, same_from_reflected}

-- a step leaves a block
pub block_step-lt : (v : ℕ) → v < 2 ^ 128 → block_step v < 2 ^ 128
unfolding block_step
block_step-lt v h =
    let half : v / 2 < 2 ^ 128 = omega arith in
    let low : v % 2 * (0xe1 * 2 ^ 120) < 2 ^ 128 = omega arith in
    xor_lt 128 (v / 2) (v % 2 * (0xe1 * 2 ^ 120)) half low

-- a step of twice a number is the number
pub block_step-double : (v : ℕ) → block_step (v * 2) ≡ v
unfolding block_step
block_step-double v =
    let half : v * 2 / 2 ≡ v = omega arith in
    let none : v * 2 % 2 * (0xe1 * 2 ^ 120) ≡ 0 = omega arith in
    (λ i. bit_xor (half i) (none i)) ∙ xor_zero_r v

-- a step goes outside a product
pub block_product-step : (w h : ℕ) → w < 2 ^ 128 → block_product (block_step w) h ≡ block_step (block_product w h)
unfolding block_step
block_product-step w h lt =
    let p : ℕ = reflected w in
    let q : ℕ = reflected h in
    let step : reflected (block_step w) ≡ times_x p = reflected-step w lt in
    same_from_reflected _ _ (product-lt (block_step w) h) (block_step-lt (block_product w h) (product-lt w h)) (
    reflected-product (block_step w) h
    ∙ ap (λ c. times_below times_x 128 c q) step
    ∙ times-comm times_x times_x-linear 128 powers (times_x p) q (times_x-lt p (reflected-lt w)) (reflected-lt h)
    ∙ times-inside times_x times_x-linear 128 q p
    ∙ ap times_x (times-comm times_x times_x-linear 128 powers q p (reflected-lt h) (reflected-lt w) ∙ sym (reflected-product w h))
    ∙ sym (reflected-step (block_product w h) (product-lt w h)))

-- half of a block's multiple, that is, the block times x
pub halved : (h w u : ℕ) → w * 2 < 2 ^ 128 → u ≡ block_product (w * 2) h → block_step u ≡ block_product w h
halved h w u lt e =
    ap block_step e ∙ sym (block_product-step (w * 2) h lt) ∙ ap (λ a. block_product a h) (block_step-double w)

-- 0 times a block is 0
pub zero-product : (h : ℕ) → block_product 0 h ≡ 0
zero-product h = ap (λ a. block_product a h) (sym (xor_zero_l 0)) ∙ product-linear 0 0 h ∙ xor_self (block_product 0 h)

-- a step is linear
pub block_step-linear : IsLinear block_step
unfolding block_step
block_step-linear a b =
    let r : ℕ = 0xe1 * 2 ^ 120 in
    let half : bit_xor a b / 2 ≡ bit_xor (a / 2) (b / 2) = xor_shr a b 1 in
    let low : bit_xor a b % 2 ≡ (a % 2 + b % 2) % 2 =
    sym (bit_at_lowest (bit_xor a b)) ∙ bit_at_xor a b 0 ∙ (λ i. (bit_at_lowest a i + bit_at_lowest b i) % 2) in
    (λ i. bit_xor (half i) (low i * r))
    ∙ ap (bit_xor (bit_xor (a / 2) (b / 2))) (pick_xor (a % 2) (b % 2) r (omega arith) (omega arith))
    ∙ xor_swap (a / 2) (b / 2) (a % 2 * r) (b % 2 * r)

-- k steps of a block's multiple by 2 ^ k
pub power-product : (k w h : ℕ) → w * 2 ^ k < 2 ^ 128 → block_product w h ≡ power_of block_step k (block_product (w * 2 ^ k) h)
unfolding power_of
power-product zero w h lt = let e : w ≡ w * 2 ^ 0 = omega arith in ap (λ c. block_product c h) e
power-product (suc k) w h lt =
    let e : w * 2 ^ suc k ≡ w * 2 * 2 ^ k = ap (λ y. w * y) (pow-suc 2 k) ∙ omega arith in
    let small : w * 2 * 2 ^ k < 2 ^ 128 = subst (λ c. c < 2 ^ 128) e lt in
    let less : w * 2 < 2 ^ 128 = omega (arith, small, shl-shr (w * 2) k, shr_le (w * 2 * 2 ^ k) k) in
    sym (halved h w (block_product (w * 2) h) less refl)
    ∙ ap block_step (power-product k (w * 2) h small ∙ ap (λ c. power_of block_step k (block_product c h)) (sym e))

-- k steps of a multiple of 2 ^ k divide it
pub power-shifted : (k v : ℕ) → power_of block_step k (v * 2 ^ k) ≡ v
unfolding power_of
power-shifted zero v = omega arith
power-shifted (suc k) v =
    let e : v * 2 ^ suc k ≡ v * 2 ^ k * 2 = ap (λ y. v * y) (pow-suc 2 k) ∙ omega arith in
    sym (power_of-inside block_step k (v * 2 ^ suc k)) ∙ ap (λ c. power_of block_step k (block_step c)) e
    ∙ ap (power_of block_step k) (block_step-double (v * 2 ^ k)) ∙ power-shifted k v

-- x ^ k times a block
pub block-power : (k h : ℕ) → k < 128 → h < 2 ^ 128 → block_product (2 ^ (127 - k)) h ≡ power_of block_step k h
block-power k h le lt =
    let whole : 2 ^ (127 - k) * 2 ^ k ≡ 2 ^ 127 = sym (pow-add 2 (127 - k) k) ∙ (let e : 127 - k + k ≡ 127 = omega arith in ap (λ j. 2 ^ j) e) in
    let small : 2 ^ (127 - k) * 2 ^ k < 2 ^ 128 = omega (arith, whole) in
    power-product k (2 ^ (127 - k)) h small
    ∙ ap (λ c. power_of block_step k (block_product c h)) whole ∙ ap (power_of block_step k) (one-product h lt)
