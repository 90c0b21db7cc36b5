-- What shows that the definitions say what they are meant to: long division leaves a polynomial of
-- degree below 128 that differs from the dividend by multiples of the modulus, and published examples
-- come out when the definitions are computed.
use Rattle.std.proofs.Common.{◌≡◌, ℕ, zero, suc, ◌+◌, ◌*◌, ◌/◌, ◌%◌, ◌^◌, ◌<◌, [], ◌∷◌, bit_xor, refl, sym, ap, subst, ◌∙◌, arith, mod-lt}
use Rattle.std.specs.Int.{bit_at}
use Rattle.std.proofs.Math.Nat.{pow-suc, mod-eq_of_lt}
use Rattle.std.proofs.lemmas.Nat.{pow_pos, pow-add, xor_lt, xor_block, shr_split, div_below}
use Rattle.std.proofs.lemmas.Nat.Bits.{bit_at-lt}
use Rattle.std.specs.Int.Bits.{xor_zero_r, xor_self, xor_assoc}
use Rattle.ghash_field.specs.Field.{reflected, block_product, block_power}
use Rattle.ghash_field.specs.Ghash.{ghash}
use Rattle.ghash_field.specs.Polynomial.{modulus, remainder, without_term, product, sum_below, from_coefficients}
use Rattle.ghash_field.proofs.Product.{pick-lt}

-- what long division takes away: a sum of multiples of the modulus by powers of x
unfoldable pub taken_away : ℕ → ℕ → ℕ
taken_away p zero = 0
taken_away p (suc n) = bit_xor (taken_away (without_term p n) n) (bit_at p (128 + n) * (modulus * 2 ^ n))

pub remainder-division : (n p : ℕ) → p ≡ bit_xor (remainder p n) (taken_away p n)
unfolding remainder taken_away
remainder-division zero p = sym (xor_zero_r p)
remainder-division (suc n) p =
    let term : ℕ = bit_at p (128 + n) * (modulus * 2 ^ n) in
    sym (xor_assoc p term term ∙ ap (bit_xor p) (xor_self term) ∙ xor_zero_r p)
    ∙ ap (λ q. bit_xor q term) (remainder-division n (without_term p n))
    ∙ xor_assoc (remainder (without_term p n) n) (taken_away (without_term p n) n) term

grow : (t a b : ℕ) → t * (a + b) ≡ t * a + t * b
grow t a b = omega arith

without_term-lt : (n p : ℕ) → p < 2 ^ (128 + suc n) → without_term p n < 2 ^ (128 + n)
without_term-lt n p lt =
    let k : ℕ = 128 + n in
    let a : ℕ = p / 2 ^ k in
    let t : ℕ = bit_at p k in
    let r : ℕ = p % 2 ^ k in
    let place : 128 + suc n ≡ suc k = omega arith in
    let double : 2 ^ (128 + suc n) ≡ 2 ^ k * 2 = ap (λ e. 2 ^ e) place ∙ pow-suc 2 k in
    let wide : 2 ^ k ≡ 2 ^ 128 * 2 ^ n = pow-add 2 128 n in
    let pos : 0 < 2 ^ n = pow_pos n in
    let below : a < 2 = div_below p (2 ^ k) 2 (pow_pos k) (omega (arith, double)) in
    let same : a ≡ t = sym (mod-eq_of_lt below) in
    let small : 0x87 * 2 ^ n < 2 ^ k = omega (arith, wide, pos) in
    let low : t * (0x87 * 2 ^ n) < 2 ^ k = pick-lt t (0x87 * 2 ^ n) (2 ^ k) (bit_at-lt p k) (pow_pos k) small in
    let whole : modulus * 2 ^ n ≡ 2 ^ k + 0x87 * 2 ^ n = omega (arith, wide) in
    let split : t * (2 ^ k + 0x87 * 2 ^ n) ≡ t * 2 ^ k + t * (0x87 * 2 ^ n) = grow t (2 ^ k) (0x87 * 2 ^ n) in
    let parts : p ≡ t * 2 ^ k + r = sym (shr_split p k) ∙ ap (λ u. u * 2 ^ k + r) same in
    let rest : bit_xor r (t * (0x87 * 2 ^ n)) < 2 ^ k = xor_lt k r (t * (0x87 * 2 ^ n)) (mod-lt p (pow_pos k)) low in
    let left : without_term p n ≡ bit_xor r (t * (0x87 * 2 ^ n)) =
    (λ i. bit_xor (parts i) ((ap (λ m. t * m) whole ∙ split) i))
    ∙ xor_block k t t r (t * (0x87 * 2 ^ n)) (mod-lt p (pow_pos k)) low
    ∙ ap (λ z. z * 2 ^ k + bit_xor r (t * (0x87 * 2 ^ n))) (xor_self t) ∙ omega arith in
    subst (λ z. z < 2 ^ k) (sym left) rest

-- the remainder has degree below 128
pub remainder-lt : (n p : ℕ) → p < 2 ^ (128 + n) → remainder p n < 2 ^ 128
unfolding remainder
remainder-lt zero p lt = lt
remainder-lt (suc n) p lt = remainder-lt n (without_term p n) (without_term-lt n p lt)

-- X 1 • H of the second test case of AES-128 in the submission of GCM
example_product : block_product 0x0388dace60b6a392f328c2b971b2fe78 0x66e94bd4ef8a2c3b884cfa59ca342b2e ≡ 0x5e2ec746917062882c85b0685353deb7
unfolding block_product reflected remainder product sum_below from_coefficients
example_product = refl

-- GHASH of that test case
pub example_ghash : ghash 0x66e94bd4ef8a2c3b884cfa59ca342b2e (0x0388dace60b6a392f328c2b971b2fe78 ∷ 0x80 ∷ []) ≡ 0xf38cbb1ad69223dcc3457ae5b6b0f885
unfolding block_power ghash block_product reflected remainder product sum_below from_coefficients
example_ghash = refl

-- GHASH of the fourth test case: two blocks of additional data, four of ciphertext and the lengths
pub example_ghash_of_seven : ghash 0xb83b533708bf535d0aa6e52980d53b78 (
    0xfeedfacedeadbeeffeedfacedeadbeef ∷ 0xabaddad2000000000000000000000000
    ∷ 0x42831ec2217774244b7221b784d0d49c ∷ 0xe3aa212f2c02a4e035c17e2329aca12e
    ∷ 0x21d514b25466931c7d8f6a5aac84aa05 ∷ 0x1ba30b396a0aac973d58e09100000000
    ∷ 0x00000000000000a000000000000001e0 ∷ []) ≡ 0x698e57f70e6ecc7fd9463b7260a9ae5f
unfolding block_power ghash block_product reflected remainder product sum_below from_coefficients
example_ghash_of_seven = refl
