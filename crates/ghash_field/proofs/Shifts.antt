-- The product of a block and that of x ^ 128, by shifts.
use Rattle.std.proofs.Common.{◌≡◌, ℕ, ◌-◌, ◌*◌, ◌/◌, ◌%◌, ◌^◌, ◌<◌, ◌≤◌, bit_xor, refl, sym, ap, subst, ◌∙◌, arith, mod-lt}
use Rattle.std.proofs.lemmas.Nat.{pow_pos, xor_lt, xor_shr, xor_mod}
use Rattle.std.specs.Int.Bits.{xor_zero_l, xor_zero_r}
use Rattle.ghash_field.specs.Field.{block_product}
use Rattle.ghash_field.specs.Steps.{block_step, folded}
use Rattle.ghash_field.proofs.Algebra.{power_of}
use Rattle.ghash_field.proofs.BlockSteps.{power-shifted, block-power}
use Rattle.ghash_field.proofs.FieldLaws.{product-comm, product-linear}
use Rattle.ghash_field.proofs.Folding.{reduction, folded-shifted}
use Rattle.ghash_field.proofs.Sums.{xor_swap, IsLinear}

-- the sum of four
abbrev pub sum4 : ℕ → ℕ → ℕ → ℕ → ℕ
sum4 a b c d = bit_xor (bit_xor (bit_xor a b) c) d

-- two such sums, term by term
sum4-xor : (a b c d e f g h : ℕ) → sum4 (bit_xor a e) (bit_xor b f) (bit_xor c g) (bit_xor d h) ≡ bit_xor (sum4 a b c d) (sum4 e f g h)
sum4-xor a b c d e f g h =
    ap (λ s. bit_xor (bit_xor s (bit_xor c g)) (bit_xor d h)) (xor_swap a e b f)
    ∙ ap (λ s. bit_xor s (bit_xor d h)) (xor_swap (bit_xor a b) (bit_xor e f) c g)
    ∙ xor_swap (bit_xor (bit_xor a b) c) (bit_xor (bit_xor e f) g) d h

-- the block of x ^ 128 is that of 1 + x + x ^ 2 + x ^ 7
four_terms : reduction ≡ sum4 (2 ^ 127) (2 ^ 126) (2 ^ 125) (2 ^ 120)
four_terms = refl

-- so the product by it is a sum of steps
steps : (v : ℕ) → v < 2 ^ 128 → block_product v reduction ≡ sum4 v (power_of block_step 1 v) (power_of block_step 2 v) (power_of block_step 7 v)
unfolding power_of
steps v lt =
    let r0 : ℕ = 2 ^ 127 in
    let r1 : ℕ = 2 ^ 126 in
    let r2 : ℕ = 2 ^ 125 in
    let r7 : ℕ = 2 ^ 120 in
    let p0 : block_product r0 v ≡ v = block-power 0 v (omega arith) lt in
    let p1 : block_product r1 v ≡ power_of block_step 1 v = block-power 1 v (omega arith) lt in
    let p2 : block_product r2 v ≡ power_of block_step 2 v = block-power 2 v (omega arith) lt in
    let p7 : block_product r7 v ≡ power_of block_step 7 v = block-power 7 v (omega arith) lt in
    product-comm v reduction ∙ ap (λ c. block_product c v) four_terms
    ∙ product-linear (bit_xor (bit_xor r0 r1) r2) r7 v
    ∙ ap (λ s. bit_xor s (block_product r7 v)) (product-linear (bit_xor r0 r1) r2 v)
    ∙ ap (λ s. bit_xor (bit_xor s (block_product r2 v)) (block_product r7 v)) (product-linear r0 r1 v)
    ∙ (λ i. sum4 (p0 i) (p1 i) (p2 i) (p7 i))

-- the sum of the shifts
abbrev pub shifts : ℕ → ℕ
shifts v = sum4 v (v / 2 ^ 1) (v / 2 ^ 2) (v / 2 ^ 7)

-- it is linear
shifts-linear : IsLinear shifts
shifts-linear a b =
    (λ i. sum4 (bit_xor a b) (xor_shr a b 1 i) (xor_shr a b 2 i) (xor_shr a b 7 i))
    ∙ sum4-xor a (a / 2 ^ 1) (a / 2 ^ 2) (a / 2 ^ 7) b (b / 2 ^ 1) (b / 2 ^ 2) (b / 2 ^ 7)

-- steps of a multiple of 2 ^ 121 are shifts
multiple : (u : ℕ) → u * 2 ^ 121 < 2 ^ 128 → block_product (u * 2 ^ 121) reduction ≡ shifts (u * 2 ^ 121)
multiple u lt =
    let step : (k m : ℕ) → u * 2 ^ 121 ≡ m * 2 ^ k → m ≡ u * 2 ^ 121 / 2 ^ k → power_of block_step k (u * 2 ^ 121) ≡ u * 2 ^ 121 / 2 ^ k =
    λ k m e f. ap (power_of block_step k) e ∙ power-shifted k m ∙ f in
    let s1 = step 1 (u * 2 ^ 120) (omega arith) (omega arith) in
    let s2 = step 2 (u * 2 ^ 119) (omega arith) (omega arith) in
    let s7 = step 7 (u * 2 ^ 114) (omega arith) (omega arith) in
    steps (u * 2 ^ 121) lt ∙ (λ i. sum4 (u * 2 ^ 121) (s1 i) (s2 i) (s7 i))

-- what falls out at the end of the three shifts
abbrev pub fallen : ℕ → ℕ
fallen v = bit_xor (bit_xor (v * 2 ^ 127 % 2 ^ 128) (v * 2 ^ 126 % 2 ^ 128)) (v * 2 ^ 121 % 2 ^ 128)

-- is a multiple of 2 ^ 121
fallen-multiple : (v : ℕ) → fallen v ≡ fallen v / 2 ^ 121 * 2 ^ 121
fallen-multiple v =
    let a : ℕ = v * 2 ^ 127 % 2 ^ 128 in
    let b : ℕ = v * 2 ^ 126 % 2 ^ 128 in
    let c : ℕ = v * 2 ^ 121 % 2 ^ 128 in
    let na : a % 2 ^ 121 ≡ 0 = omega arith in
    let nb : b % 2 ^ 121 ≡ 0 = omega arith in
    let nc : c % 2 ^ 121 ≡ 0 = omega arith in
    let none : fallen v % 2 ^ 121 ≡ 0 =
    xor_mod (bit_xor a b) c 121
    ∙ (λ i. bit_xor (xor_mod a b 121 i) (nc i)) ∙ (λ i. bit_xor (bit_xor (na i) (nb i)) 0) in
    omega (arith, none)

fallen-lt : (v : ℕ) → fallen v < 2 ^ 128
fallen-lt v =
    xor_lt 128 _ _ (xor_lt 128 _ _ (mod-lt (v * 2 ^ 127) (pow_pos 128)) (mod-lt (v * 2 ^ 126) (pow_pos 128))) (mod-lt (v * 2 ^ 121) (pow_pos 128))

-- a step is a shift, and the product by x ^ 128 of what falls out
step-shift : (k v : ℕ) → k ≤ 128 → v * 2 ^ (128 - k) / 2 ^ 128 ≡ v / 2 ^ k
    → power_of block_step k v ≡ bit_xor (v / 2 ^ k) (block_product (v * 2 ^ (128 - k) % 2 ^ 128) reduction)
unfolding folded
step-shift k v le e =
    sym (folded-shifted k v le) ∙ ap (λ c. bit_xor c (block_product (v * 2 ^ (128 - k) % 2 ^ 128) reduction)) e

-- the product by the block of x ^ 128
pub reduction-shifts : (v : ℕ) → v < 2 ^ 128 → block_product v reduction ≡ shifts (bit_xor v (fallen v))
reduction-shifts v lt =
    let a : ℕ = v * 2 ^ 127 % 2 ^ 128 in
    let b : ℕ = v * 2 ^ 126 % 2 ^ 128 in
    let c : ℕ = v * 2 ^ 121 % 2 ^ 128 in
    let u : ℕ = fallen v / 2 ^ 121 in
    let w : fallen v ≡ u * 2 ^ 121 = fallen-multiple v in
    let s1 = step-shift 1 v (omega arith) (omega arith) in
    let s2 = step-shift 2 v (omega arith) (omega arith) in
    let s7 = step-shift 7 v (omega arith) (omega arith) in
    let out : bit_xor (bit_xor (block_product a reduction) (block_product b reduction)) (block_product c reduction) ≡ block_product (fallen v) reduction =
    sym (product-linear (bit_xor a b) c reduction ∙ ap (λ s. bit_xor s (block_product c reduction)) (product-linear a b reduction)) in
    let again : block_product (fallen v) reduction ≡ shifts (fallen v) =
    ap (λ s. block_product s reduction) w ∙ multiple u (subst (λ s. s < 2 ^ 128) w (fallen-lt v)) ∙ ap shifts (sym w) in
    steps v lt
    ∙ (λ i. sum4 (sym (xor_zero_r v) i) (s1 i) (s2 i) (s7 i))
    ∙ sum4-xor v (v / 2 ^ 1) (v / 2 ^ 2) (v / 2 ^ 7) 0 (block_product a reduction) (block_product b reduction) (block_product c reduction)
    ∙ ap (λ s. bit_xor (shifts v) (bit_xor (bit_xor s (block_product b reduction)) (block_product c reduction))) (xor_zero_l (block_product a reduction))
    ∙ ap (bit_xor (shifts v)) (out ∙ again)
    ∙ sym (shifts-linear v (fallen v))
