-- GHASH of four blocks more, by four powers of the hash subkey.
use Rattle.std.proofs.Common.{◌≡◌, ℕ, suc, ◌+◌, ◌*◌, ◌^◌, ◌<◌, List, [], ◌∷◌, ◌++◌, length, get_or, bit_xor, refl, sym, ap, ◌∙◌, arith, append_assoc}
use Rattle.std.proofs.lemmas.Nat.{xor_lt}
use Rattle.std.specs.Int.Bits.{xor_assoc}
use Rattle.ghash_field.specs.Field.{block_product, block_power}
use Rattle.ghash_field.specs.Ghash.{ghash}
use Rattle.ghash_field.specs.Polynomial.{product}
use Rattle.ghash_field.specs.Steps.{folded}
use Rattle.ghash_field.proofs.BlockSteps.{zero-product}
use Rattle.ghash_field.proofs.Division.{double-xor}
use Rattle.ghash_field.proofs.FieldLaws.{product-comm, product-linear, product-assoc, one-product, ghash-more}
use Rattle.ghash_field.proofs.Folding.{folded-linear, folded-product, product-below}
use Rattle.ghash_field.proofs.Reflected.{product-lt}
use Rattle.ghash_field.proofs.Sums.{IsLinear, xor_swap}

-- H ^ 1
pub power-one : (h : ℕ) → h < 2 ^ 128 → block_power h 1 ≡ h
unfolding block_power
power-one h lt = one-product h lt

-- H ^ (k + 1)
pub power-more : (h k : ℕ) → block_power h (suc k) ≡ block_product (block_power h k) h
unfolding block_power
power-more h k = refl

-- a power is a block
pub power-below : (h k : ℕ) → block_power h (suc k) < 2 ^ 128
unfolding block_power
power-below h k = product-lt (block_power h k) h

-- a power of 0
pub power-zero : (k : ℕ) → block_power 0 (suc k) ≡ 0
unfolding block_power
power-zero k = product-comm (block_power 0 k) 0 ∙ zero-product (block_power 0 k)

-- a product by a power, times h
times_power-more : (h k y : ℕ) → block_product (block_product y (block_power h k)) h ≡ block_product y (block_power h (suc k))
unfolding block_power
times_power-more h k y = product-assoc y (block_power h k) h

-- the sum of four products
abbrev pub four_products : ℕ → ℕ → ℕ → ℕ → ℕ → ℕ
four_products h a b c d =
    bit_xor (bit_xor (bit_xor (block_product a (block_power h 4)) (block_product b (block_power h 3))) (block_product c (block_power h 2))) (block_product d (block_power h 1))

-- four steps of GHASH
four_steps : (h a b c d : ℕ) → h < 2 ^ 128
    → block_product (bit_xor (block_product (bit_xor (block_product (bit_xor (block_product a h) b) h) c) h) d) h ≡ four_products h a b c d
four_steps h a b c d lt =
    let t : ℕ → ℕ = λ y. block_product y h in
    let p : ℕ → ℕ → ℕ = λ k y. block_product y (block_power h k) in
    let one : (y : ℕ) → t y ≡ p 1 y = λ y. ap (block_product y) (sym (power-one h lt)) in
    let more : (k y : ℕ) → t (p k y) ≡ p (suc k) y = λ k y. times_power-more h k y in
    let lin : (x y : ℕ) → t (bit_xor x y) ≡ bit_xor (t x) (t y) = λ x y. product-linear x y h in
    let first : t a ≡ p 1 a = one a in
    let second : t (bit_xor (t a) b) ≡ bit_xor (p 2 a) (p 1 b) =
    lin (t a) b ∙ (λ i. bit_xor ((ap t first ∙ more 1 a) i) (one b i)) in
    let third : t (bit_xor (t (bit_xor (t a) b)) c) ≡ bit_xor (bit_xor (p 3 a) (p 2 b)) (p 1 c) =
    lin (t (bit_xor (t a) b)) c
    ∙ (λ i. bit_xor ((ap t second ∙ lin (p 2 a) (p 1 b) ∙ (λ j. bit_xor (more 2 a j) (more 1 b j))) i) (one c i)) in
    lin (t (bit_xor (t (bit_xor (t a) b)) c)) d
    ∙ (λ i. bit_xor (ap t third i) (one d i))
    ∙ ap (λ z. bit_xor z (p 1 d)) (
    lin (bit_xor (p 3 a) (p 2 b)) (p 1 c)
    ∙ (λ i. bit_xor ((lin (p 3 a) (p 2 b) ∙ (λ j. bit_xor (more 3 a j) (more 2 b j))) i) (more 1 c i)))

-- GHASH of four blocks more
pub ghash-four : (h a b c d : ℕ) (xs : List ℕ) → h < 2 ^ 128
    → ghash h (xs ++ a ∷ b ∷ c ∷ d ∷ []) ≡ four_products h (bit_xor (ghash h xs) a) b c d
ghash-four h a b c d xs lt =
    let xa : List ℕ = xs ++ a ∷ [] in
    let xb : List ℕ = xa ++ b ∷ [] in
    let xc : List ℕ = xb ++ c ∷ [] in
    let apart : xs ++ a ∷ b ∷ c ∷ d ∷ [] ≡ xc ++ d ∷ [] =
    sym (append_assoc xb (c ∷ []) (d ∷ []) ∙ append_assoc xa (b ∷ []) (c ∷ d ∷ []) ∙ append_assoc xs (a ∷ []) (b ∷ c ∷ d ∷ [])) in
    let t : ℕ → ℕ → ℕ = λ y z. block_product (bit_xor y z) h in
    ap (ghash h) apart ∙ ghash-more h d xc lt ∙ ap (λ y. t y d) (ghash-more h c xb lt)
    ∙ ap (λ y. t (t y c) d) (ghash-more h b xa lt) ∙ ap (λ y. t (t (t y b) c) d) (ghash-more h a xs lt)
    ∙ four_steps h (bit_xor (ghash h xs) a) b c d lt

-- GHASH is a block
pub ghash-below : (h : ℕ) (xs : List ℕ) → ghash h xs < 2 ^ 128
unfolding ghash
ghash-below h [] = omega arith
ghash-below h (x ∷ xs) = xor_lt 128 _ _ (product-lt x (block_power h (length xs + 1))) (ghash-below h xs)

-- the four terms in order
turned : (a b c d : ℕ) → bit_xor (bit_xor a c) (bit_xor b d) ≡ bit_xor (bit_xor (bit_xor a b) c) d
turned a b c d = xor_swap a c b d ∙ sym (xor_assoc (bit_xor a b) c d)

-- the sum of four products of polynomials, the first and third together
abbrev pub four_polynomials : ℕ → ℕ → ℕ → ℕ → ℕ → ℕ
four_polynomials h a b c d =
    bit_xor (bit_xor (product a (block_power h 4)) (product c (block_power h 2))) (bit_xor (product b (block_power h 3)) (product d (block_power h 1)))

pub four_polynomials-below : (h a b c d : ℕ) → four_polynomials h a b c d < 2 ^ 255
four_polynomials-below h a b c d =
    let lt : (y k : ℕ) → product y (block_power h k) < 2 ^ 255 = λ y k. product-below y (block_power h k) in
    xor_lt 255 _ _ (xor_lt 255 _ _ (lt a 4) (lt c 2)) (xor_lt 255 _ _ (lt b 3) (lt d 1))

-- it is reduced as a whole
pub four-folded : (h a b c d : ℕ) → a < 2 ^ 128 → b < 2 ^ 128 → c < 2 ^ 128 → d < 2 ^ 128
    → folded (four_polynomials h a b c d * 2) ≡ four_products h a b c d
four-folded h a b c d ha hb hc hd =
    let l : ℕ → ℕ = λ z. folded (z * 2) in
    let lin : IsLinear l = λ x y. ap folded (double-xor x y) ∙ folded-linear (x * 2) (y * 2) in
    let q : ℕ → ℕ → ℕ = λ k y. product y (block_power h k) in
    let one : (k y : ℕ) → y < 2 ^ 128 → l (q (suc k) y) ≡ block_product y (block_power h (suc k)) =
    λ k y lt. folded-product y (block_power h (suc k)) lt (power-below h k) in
    lin (bit_xor (q 4 a) (q 2 c)) (bit_xor (q 3 b) (q 1 d))
    ∙ (λ i. bit_xor (lin (q 4 a) (q 2 c) i) (lin (q 3 b) (q 1 d) i))
    ∙ (λ i. bit_xor (bit_xor (one 3 a ha i) (one 1 c hc i)) (bit_xor (one 2 b hb i) (one 0 d hd i)))
    ∙ turned (block_product a (block_power h 4)) (block_product b (block_power h 3)) (block_product c (block_power h 2)) (block_product d (block_power h 1))

-- a list of four
pub four_entries : (xs : List (List ℕ)) → length xs ≡ 4 → xs ≡ get_or xs 0 [] ∷ get_or xs 1 [] ∷ get_or xs 2 [] ∷ get_or xs 3 [] ∷ []
four_entries [] e = absurd (omega arith)
four_entries (a ∷ []) e = absurd (omega arith)
four_entries (a ∷ b ∷ []) e = absurd (omega arith)
four_entries (a ∷ b ∷ c ∷ []) e = absurd (omega arith)
four_entries (a ∷ b ∷ c ∷ d ∷ []) e = refl
four_entries (a ∷ b ∷ c ∷ d ∷ f ∷ xs) e = absurd (omega arith)
