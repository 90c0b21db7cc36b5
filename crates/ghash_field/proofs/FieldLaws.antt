-- The laws of the product of blocks, and GHASH block by block.
use Rattle.std.proofs.Common.{◌≡◌, ℕ, suc, ◌+◌, ◌^◌, ◌<◌, List, [], ◌∷◌, ◌++◌, length, length-append, bit_xor, refl, sym, ap, ◌∙◌, arith}
use Rattle.std.proofs.lemmas.Nat.{xor_lt}
use Rattle.std.specs.Int.Bits.{xor_zero_l, xor_zero_r, xor_assoc}
use Rattle.ghash_field.specs.Field.{reflected, block_product, block_power}
use Rattle.ghash_field.specs.Ghash.{ghash}
use Rattle.ghash_field.specs.Polynomial.{from_coefficients}
use Rattle.ghash_field.proofs.Algebra.{times_below, times-linear_left, times-assoc, times-comm, times-one}
use Rattle.ghash_field.proofs.Division.{times_x, times_x-linear, powers}
use Rattle.ghash_field.proofs.Reflected.{reflected-lt, reflected-linear, reflected-product, product-lt, times-lt, same_from_reflected}

-- the product distributes over the sum
pub product-linear : (a b h : ℕ) → block_product (bit_xor a b) h ≡ bit_xor (block_product a h) (block_product b h)
product-linear a b h =
    same_from_reflected _ _ (product-lt (bit_xor a b) h) (xor_lt 128 _ _ (product-lt a h) (product-lt b h)) (
    reflected-product (bit_xor a b) h
    ∙ ap (λ c. times_below times_x 128 c (reflected h)) (reflected-linear a b)
    ∙ times-linear_left times_x 128 (reflected a) (reflected b) (reflected h)
    ∙ (λ i. bit_xor (sym (reflected-product a h) i) (sym (reflected-product b h) i))
    ∙ sym (reflected-linear (block_product a h) (block_product b h)))

-- the product commutes
pub product-comm : (a b : ℕ) → block_product a b ≡ block_product b a
product-comm a b =
    same_from_reflected _ _ (product-lt a b) (product-lt b a) (
    reflected-product a b
    ∙ times-comm times_x times_x-linear 128 powers (reflected a) (reflected b) (reflected-lt a) (reflected-lt b)
    ∙ sym (reflected-product b a))

-- the product associates
pub product-assoc : (a b c : ℕ) → block_product (block_product a b) c ≡ block_product a (block_product b c)
product-assoc a b c =
    same_from_reflected _ _ (product-lt (block_product a b) c) (product-lt a (block_product b c)) (
    reflected-product (block_product a b) c
    ∙ ap (λ d. times_below times_x 128 d (reflected c)) (reflected-product a b)
    ∙ times-assoc times_x times_x-linear 128 powers (reflected a) (reflected b) (reflected c) (reflected-lt a) (reflected-lt b) (reflected-lt c) (times-lt (reflected a) (reflected b) (reflected-lt b))
    ∙ ap (times_below times_x 128 (reflected a)) (sym (reflected-product b c))
    ∙ sym (reflected-product a (block_product b c)))

-- the block of the polynomial 1
reflected_one : reflected (2 ^ 127) ≡ 1
unfolding reflected from_coefficients
reflected_one = refl

-- and it leaves a block as it is
pub one-product : (h : ℕ) → h < 2 ^ 128 → block_product (2 ^ 127) h ≡ h
one-product h lt =
    same_from_reflected _ _ (product-lt (2 ^ 127) h) lt (
    reflected-product (2 ^ 127) h
    ∙ ap (λ p. times_below times_x 128 p (reflected h)) reflected_one
    ∙ times-comm times_x times_x-linear 128 powers 1 (reflected h) (omega arith) (reflected-lt h)
    ∙ times-one times_x 128 (reflected h) powers (reflected-lt h))

-- GHASH of one block more
pub ghash-more : (h x : ℕ) (xs : List ℕ) → h < 2 ^ 128 → ghash h (xs ++ x ∷ []) ≡ block_product (bit_xor (ghash h xs) x) h
unfolding ghash block_power
ghash-more h x [] lt =
    xor_zero_r _ ∙ ap (block_product x) (one-product h lt) ∙ ap (λ y. block_product y h) (sym (xor_zero_l x))
ghash-more h x (y ∷ xs) lt =
    let n : ℕ = length xs in
    let longer : length (xs ++ x ∷ []) + 1 ≡ suc (n + 1) = omega (arith, length-append xs (x ∷ [])) in
    let first : block_product y (block_power h (length (xs ++ x ∷ []) + 1)) ≡ block_product (block_product y (block_power h (n + 1))) h =
    ap (λ k. block_product y (block_power h k)) longer ∙ sym (product-assoc y (block_power h (n + 1)) h) in
    (λ i. bit_xor (first i) (ghash-more h x xs lt i))
    ∙ sym (product-linear (block_product y (block_power h (n + 1))) (bit_xor (ghash h xs) x) h)
    ∙ ap (λ z. block_product z h) (sym (xor_assoc (block_product y (block_power h (n + 1))) (ghash h xs) x))
