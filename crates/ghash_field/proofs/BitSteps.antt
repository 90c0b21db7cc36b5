-- The product bit by bit, from the first block's left.
use Rattle.std.proofs.Common.{◌≡◌, ℕ, suc, ◌+◌, ◌-◌, ◌*◌, ◌^◌, ◌<◌, bit_xor, refl, sym, ap, ◌∙◌, arith}
use Rattle.std.specs.Int.{bit_at}
use Rattle.std.proofs.lemmas.Nat.Bits.{bit_at-lt}
use Rattle.ghash_field.specs.Steps.{block_step}
use Rattle.ghash_field.specs.Field.{reflected, block_product}
use Rattle.ghash_field.proofs.Algebra.{power_of, times_below}
use Rattle.ghash_field.proofs.Division.{times_x}
use Rattle.ghash_field.proofs.Reflected.{reflected-linear, reflected-product, product-lt, reflected-step, bit_at-reflected, same_from_reflected}
use Rattle.ghash_field.proofs.Sums.{xor_below, linear-zero, linear-pick}

-- s is the product of b and a's leftmost i bits
abbrev pub IsProductBelow : ℕ → ℕ → ℕ → ℕ → Type 0
IsProductBelow a b s i = reflected s ≡ times_below times_x i (reflected a) (reflected b)

-- v is b times x ^ i
abbrev pub IsShifted : ℕ → ℕ → ℕ → Type 0
IsShifted b v i = reflected v ≡ power_of times_x i (reflected b)

-- one more of a's bits
pub step-bit : (a b s v i : ℕ) → i < 128 → IsProductBelow a b s i → IsShifted b v i → IsProductBelow a b (bit_xor s (bit_at a (127 - i) * v)) (i + 1)
unfolding times_below xor_below
step-bit a b s v i lt sum shifted =
    let e : suc i ≡ i + 1 = omega arith in
    let t : ℕ = bit_at a (127 - i) in
    let bit : bit_at (reflected a) i ≡ t = bit_at-reflected a i lt in
    reflected-linear s (t * v)
    ∙ (λ j. bit_xor (sum j) (linear-pick reflected reflected-linear t v (bit_at-lt a (127 - i)) j))
    ∙ (λ j. bit_xor (times_below times_x i (reflected a) (reflected b)) (sym bit j * shifted j))
    ∙ ap (λ n. times_below times_x n (reflected a) (reflected b)) e

-- one more step of the multiple
pub shift-more : (b v i : ℕ) → v < 2 ^ 128 → IsShifted b v i → IsShifted b (block_step v) (i + 1)
unfolding power_of block_step
shift-more b v i lt shifted =
    let e : suc i ≡ i + 1 = omega arith in
    reflected-step v lt ∙ ap times_x shifted ∙ ap (λ n. power_of times_x n (reflected b)) e

-- after all 128 bits the sum is the product
pub product-all : (a b s : ℕ) → s < 2 ^ 128 → IsProductBelow a b s 128 → s ≡ block_product a b
product-all a b s lt sum = same_from_reflected _ _ lt (product-lt a b) (sum ∙ sym (reflected-product a b))

-- of no bits it is 0
pub product-none : (a b : ℕ) → IsProductBelow a b 0 0
unfolding times_below xor_below
product-none a b = linear-zero reflected reflected-linear

-- before the first step the multiple is b
pub shift-none : (b : ℕ) → IsShifted b b 0
unfolding power_of
shift-none b = refl
