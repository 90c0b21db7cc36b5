-- The product of two words from the products of their parts.
use Rattle.std.proofs.Common.{◌≡◌, ℕ, zero, suc, ◌+◌, ◌-◌, ◌*◌, ◌/◌, ◌%◌, ◌^◌, ◌<◌, ◌≤◌, min, bit_and, bit_xor, refl, sym, ap, subst, ◌∙◌, arith, mod-lt, ⊎_elim}
use Rattle.std.specs.Int.{bit_at}
use Rattle.std.specs.Int.Bits.{xor_assoc, xor_comm}
use Rattle.std.proofs.Math.Nat.{mod-eq_of_lt}
use Rattle.std.proofs.lemmas.Bool.{cases_lt}
use Rattle.std.proofs.lemmas.Nat.{pow_pos, pow-add, mul-lt, xor_lt, shr_split, and_block, and_mask, and_comm, and_le_l, and_le_r}
use Rattle.std.proofs.lemmas.Nat.Bits.{bit_at-lt, bit_at-zero, bit_at_xor, bit_at_and, bit_at_above, bit_at_cat_low, bit_at_cat_high, same_from_bits, same_from_bits_below}
use Rattle.ghash_field.specs.Polynomial.{product}
use Rattle.ghash_field.specs.Holes.{part, sum_of_four}
use Rattle.ghash_field.proofs.Sums.{xor_swap}
use Rattle.ghash_field.proofs.Product.{bit_at-shifted, bit_at-shifted_low}
use Rattle.ghash_field.proofs.ProductLaws.{product-linear_left, product-linear_right, product-shift, product-shift_left, product-narrow}
use Rattle.ghash_field.proofs.Holes.{HasHoles, counted, product-holes}

-- n groups of four bits, of each the lowest
unfoldable every_fourth : ℕ → ℕ
every_fourth zero = 0
every_fourth (suc n) = every_fourth n * 2 ^ 4 + 1

every_fourth-in : (n i : ℕ) → i % 4 ≡ 0 → i < 4 * n → bit_at (every_fourth n) i ≡ 1
unfolding every_fourth
every_fourth-in zero i place lt = absurd (omega arith)
every_fourth-in (suc n) i place lt =
    ⊎_elim
    (λ (low : i < 4). let e : i ≡ 0 = omega arith in bit_at_cat_low (every_fourth n) 4 1 i low ∙ ap (bit_at 1) e)
    (λ (high : 4 ≤ i). bit_at_cat_high (every_fourth n) 4 1 i (omega arith) high ∙ every_fourth-in n (i - 4) (omega arith) (omega arith))
    (cases_lt i 4)

every_fourth-holes : (n : ℕ) → HasHoles (every_fourth n)
unfolding every_fourth
every_fourth-holes zero i odd = bit_at-zero i
every_fourth-holes (suc n) i odd =
    ⊎_elim
    (λ (low : i < 4). bit_at_cat_low (every_fourth n) 4 1 i low ∙ bit_at_above 1 1 i (omega arith) (omega arith))
    (λ (high : 4 ≤ i). bit_at_cat_high (every_fourth n) 4 1 i (omega arith) high ∙ every_fourth-holes n (i - 4) (omega arith))
    (cases_lt i 4)

eight : every_fourth 8 ≡ 0x1111_1111
unfolding every_fourth
eight = refl

sixteen : every_fourth 16 ≡ 0x1111_1111_1111_1111
unfolding every_fourth
sixteen = refl

-- what `&` takes away
both_zero : (b : ℕ) → b ≡ 0 → (a : ℕ) → min a b ≡ 0
both_zero b e a = omega arith

-- part j as a number with holes, shifted by j places
root : ℕ → ℕ → ℕ
root n j = bit_and (n / 2 ^ j) 0x1111_1111

part-root : (n j : ℕ) → part n j ≡ root n j * 2 ^ j
unfolding root
part-root n j =
    let low : n % 2 ^ j < 2 ^ j = mod-lt n (pow_pos j) in
    let nothing : bit_and (n % 2 ^ j) 0 ≡ 0 = omega (arith, and_le_r (n % 2 ^ j) 0) in
    let plain : 0x1111_1111 * 2 ^ j ≡ 0x1111_1111 * 2 ^ j + 0 = omega arith in
    (λ i. bit_and (sym (shr_split n j) i) (plain i))
    ∙ and_block j (n / 2 ^ j) 0x1111_1111 (n % 2 ^ j) 0 low (pow_pos j)
    ∙ ap (λ c. root n j * 2 ^ j + c) nothing ∙ omega arith

root-holes : (n j : ℕ) → HasHoles (root n j)
unfolding root
root-holes n j i odd =
    bit_at_and (n / 2 ^ j) 0x1111_1111 i
    ∙ both_zero _ (ap (λ m. bit_at m i) (sym eight) ∙ every_fourth-holes 8 i odd) (bit_at (n / 2 ^ j) i)

root-lt : (n j : ℕ) → root n j < 2 ^ 32
unfolding root
root-lt n j = omega (arith, and_le_r (n / 2 ^ j) 0x1111_1111)

pub part-lt : (n j : ℕ) → n < 2 ^ 32 → part n j < 2 ^ 32
part-lt n j lt = omega (arith, and_le_l n (0x1111_1111 * 2 ^ j))

-- an integer and a polynomial, both shifted by d places
masked_shift : (s p d c : ℕ) → c ≡ d % 4 → d < 8 → p * 2 ^ d < 2 ^ 64 → s * 2 ^ d < 2 ^ 64
    → ((k : ℕ) → bit_at s (4 * k) ≡ bit_at p (4 * k)) → HasHoles p
    → bit_and (s * 2 ^ d) (0x1111_1111_1111_1111 * 2 ^ c) ≡ p * 2 ^ d
masked_shift s p d c place few hp hs bits holes =
    let mask : ℕ = 0x1111_1111_1111_1111 * 2 ^ c in
    same_from_bits_below 64 _ _ (omega (arith, and_le_l (s * 2 ^ d) mask)) hp (λ i lt.
    bit_at_and (s * 2 ^ d) mask i
    ∙ ⊎_elim
    (λ (low : i < d). ap (λ b. min b (bit_at mask i)) (bit_at-shifted_low s d i low) ∙ omega arith ∙ sym (bit_at-shifted_low p d i low))
    (λ (high : d ≤ i).
    let at : bit_at mask i ≡ bit_at (every_fourth 16) (i - c) = bit_at-shifted 0x1111_1111_1111_1111 c i (omega arith) ∙ ap (λ m. bit_at m (i - c)) (sym sixteen) in
    ⊎_elim
    (λ (odd : 0 < (i - d) % 4).
    both_zero (bit_at mask i) (at ∙ every_fourth-holes 16 (i - c) (omega arith)) (bit_at (s * 2 ^ d) i)
    ∙ sym (bit_at-shifted p d i high ∙ holes (i - d) odd))
    (λ (even : (i - d) % 4 ≤ 0).
    let k : ℕ = (i - d) / 4 in
    let same : i - d ≡ 4 * k = omega arith in
    let one : bit_at mask i ≡ 1 = at ∙ every_fourth-in 16 (i - c) (omega arith) (omega arith) in
    let whole : bit_at (s * 2 ^ d) i ≡ bit_at (p * 2 ^ d) i =
    bit_at-shifted s d i high ∙ ap (bit_at s) same ∙ bits k ∙ sym (bit_at-shifted p d i high ∙ ap (bit_at p) same) in
    ap (λ b. min (bit_at (s * 2 ^ d) i) b) one ∙ omega (arith, bit_at-lt (s * 2 ^ d) i) ∙ whole)
    (cases_lt 0 ((i - d) % 4)))
    (cases_lt i d))

regroup : (x y p q : ℕ) → x * p * (y * q) ≡ x * y * (p * q)
regroup x y p q = omega arith

-- the product of two parts
parts-product : (n m a b c : ℕ) → n < 2 ^ 32 → m < 2 ^ 32 → a < 4 → b < 4 → c ≡ (a + b) % 4
    → bit_and (part n a * part m b) (0x1111_1111_1111_1111 * 2 ^ c) ≡ product (part n a) (part m b)
parts-product n m a b c hn hm ha hb place =
    let x : ℕ = root n a in
    let y : ℕ = root m b in
    let power : 2 ^ (a + b) ≡ 2 ^ a * 2 ^ b = pow-add 2 a b in
    let left : part n a ≡ x * 2 ^ a = part-root n a in
    let right : part m b ≡ y * 2 ^ b = part-root m b in
    let fits_n : part n a < 2 ^ 32 = part-lt n a hn in
    let fits_m : part m b < 2 ^ 32 = part-lt m b hm in
    let fits_x : x * 2 ^ a < 2 ^ 128 = omega (arith, left, fits_n) in
    let fits_y : y * 2 ^ b < 2 ^ 128 = omega (arith, right, fits_m) in
    let integers : part n a * part m b ≡ x * y * 2 ^ (a + b) = (λ i. left i * right i) ∙ regroup x y (2 ^ a) (2 ^ b) ∙ ap (λ w. x * y * w) (sym power) in
    let polynomials : product (part n a) (part m b) ≡ product x y * 2 ^ (a + b) =
    (λ i. product (left i) (right i))
    ∙ product-shift (x * 2 ^ a) y b fits_x fits_y
    ∙ ap (λ w. w * 2 ^ b) (product-shift_left x y a fits_x (omega (arith, root-lt m b)))
    ∙ omega arith ∙ ap (λ w. product x y * w) (sym power) in
    let narrow_p : product x y * 2 ^ (a + b) < 2 ^ 64 = subst (λ w. w < 2 ^ 64) polynomials (product-narrow (part n a) (part m b) 32 32 (omega arith) (omega arith) fits_n fits_m) in
    let narrow_s : x * y * 2 ^ (a + b) < 2 ^ 64 = subst (λ w. w < 2 ^ 64) integers (mul-lt (part n a) (part m b) (2 ^ 32) (2 ^ 32) fits_n fits_m) in
    ap (λ w. bit_and w (0x1111_1111_1111_1111 * 2 ^ c)) integers
    ∙ masked_shift (x * y) (product x y) (a + b) c place (omega arith) narrow_p narrow_s
    (counted x y (root-lt n a) (root-lt m b) (root-holes n a) (root-holes m b))
    (product-holes x y (root-lt n a) (root-lt m b) (root-holes n a) (root-holes m b))
    ∙ sym polynomials

min_sum : (a b m : ℕ) → a < 2 → b < 2 → m < 2 → min ((a + b) % 2) m ≡ (min a m + min b m) % 2
min_sum a b m ha hb hm = omega arith

-- `&` distributes over the sum
pub and_xor : (a b m : ℕ) → bit_and (bit_xor a b) m ≡ bit_xor (bit_and a m) (bit_and b m)
and_xor a b m = same_from_bits _ _ (λ i.
    bit_at_and (bit_xor a b) m i ∙ ap (λ t. min t (bit_at m i)) (bit_at_xor a b i)
    ∙ min_sum (bit_at a i) (bit_at b i) (bit_at m i) (bit_at-lt a i) (bit_at-lt b i) (bit_at-lt m i)
    ∙ sym (bit_at_xor (bit_and a m) (bit_and b m) i ∙ (λ j. (bit_at_and a m i j + bit_at_and b m i j) % 2)))

and_sum : (a b c d m : ℕ) → bit_and (sum_of_four a b c d) m ≡ sum_of_four (bit_and a m) (bit_and b m) (bit_and c m) (bit_and d m)
and_sum a b c d m =
    and_xor (bit_xor (bit_xor a b) c) d m
    ∙ ap (λ s. bit_xor s (bit_and d m)) (and_xor (bit_xor a b) c m ∙ ap (λ s. bit_xor s (bit_and c m)) (and_xor a b m))

-- a word is the sum of its parts
sum_of_parts : (n : ℕ) → n < 2 ^ 32 → n ≡ sum_of_four (part n 0) (part n 1) (part n 2) (part n 3)
sum_of_parts n lt =
    let turned : (j : ℕ) → bit_and (0x1111_1111 * 2 ^ j) n ≡ part n j = λ j. and_comm (0x1111_1111 * 2 ^ j) n in
    sym (and_mask n 32 ∙ mod-eq_of_lt lt)
    ∙ and_comm n (2 ^ 32 - 1)
    ∙ and_sum (0x1111_1111 * 2 ^ 0) (0x1111_1111 * 2 ^ 1) (0x1111_1111 * 2 ^ 2) (0x1111_1111 * 2 ^ 3) n
    ∙ (λ i. sum_of_four (turned 0 i) (turned 1 i) (turned 2 i) (turned 3 i))

-- the last of four terms comes first
turn : (a b c d : ℕ) → sum_of_four a b c d ≡ sum_of_four d a b c
turn a b c d = xor_comm (bit_xor (bit_xor a b) c) d ∙ sym (xor_assoc d (bit_xor a b) c) ∙ ap (λ s. bit_xor s c) (sym (xor_assoc d a b))

-- two sums of four, term by term
pub sums_two : (a b c d e f g h : ℕ) → bit_xor (sum_of_four a b c d) (sum_of_four e f g h) ≡ sum_of_four (bit_xor a e) (bit_xor b f) (bit_xor c g) (bit_xor d h)
sums_two a b c d e f g h =
    xor_swap (bit_xor (bit_xor a b) c) d (bit_xor (bit_xor e f) g) h
    ∙ ap (λ s. bit_xor s (bit_xor d h)) (xor_swap (bit_xor a b) c (bit_xor e f) g ∙ ap (λ s. bit_xor s (bit_xor c g)) (xor_swap a b e f))

-- linear on both sides
four_left : (a b c d q : ℕ) → a < 2 ^ 32 → b < 2 ^ 32 → c < 2 ^ 32 → d < 2 ^ 32 → q < 2 ^ 32
    → product (sum_of_four a b c d) q ≡ sum_of_four (product a q) (product b q) (product c q) (product d q)
four_left a b c d q ha hb hc hd hq =
    let ab : bit_xor a b < 2 ^ 32 = xor_lt 32 a b ha hb in
    let abc : bit_xor (bit_xor a b) c < 2 ^ 32 = xor_lt 32 (bit_xor a b) c ab hc in
    product-linear_left (bit_xor (bit_xor a b) c) d q (omega arith) (omega arith) (omega arith)
    ∙ ap (λ s. bit_xor s (product d q)) (
    product-linear_left (bit_xor a b) c q (omega arith) (omega arith) (omega arith)
    ∙ ap (λ s. bit_xor s (product c q)) (product-linear_left a b q (omega arith) (omega arith) (omega arith)))

four_right : (p a b c d : ℕ) → p < 2 ^ 32 → a < 2 ^ 32 → b < 2 ^ 32 → c < 2 ^ 32 → d < 2 ^ 32
    → product p (sum_of_four a b c d) ≡ sum_of_four (product p a) (product p b) (product p c) (product p d)
four_right p a b c d hp ha hb hc hd =
    let ab : bit_xor a b < 2 ^ 32 = xor_lt 32 a b ha hb in
    let abc : bit_xor (bit_xor a b) c < 2 ^ 32 = xor_lt 32 (bit_xor a b) c ab hc in
    product-linear_right p (bit_xor (bit_xor a b) c) d (omega arith) (omega arith) (omega arith)
    ∙ ap (λ s. bit_xor s (product p d)) (
    product-linear_right p (bit_xor a b) c (omega arith) (omega arith) (omega arith)
    ∙ ap (λ s. bit_xor s (product p c)) (product-linear_right p a b (omega arith) (omega arith) (omega arith)))

-- the products of the parts of n with parts of m, where a + 0, b + 1, c + 2 and d + 3 are one place modulo 4
diagonal : (n m a b c d place : ℕ) → n < 2 ^ 32 → m < 2 ^ 32 → a < 4 → b < 4 → c < 4 → d < 4
    → place ≡ (0 + a) % 4 → place ≡ (1 + b) % 4 → place ≡ (2 + c) % 4 → place ≡ (3 + d) % 4
    → bit_and (sum_of_four (part n 0 * part m a) (part n 1 * part m b) (part n 2 * part m c) (part n 3 * part m d)) (0x1111_1111_1111_1111 * 2 ^ place)
    ≡ sum_of_four (product (part n 0) (part m a)) (product (part n 1) (part m b)) (product (part n 2) (part m c)) (product (part n 3) (part m d))
diagonal n m a b c d place hn hm ha hb hc hd pa pb pc pd =
    let mask : ℕ = 0x1111_1111_1111_1111 * 2 ^ place in
    let one : (j k : ℕ) → j < 4 → k < 4 → place ≡ (j + k) % 4 → bit_and (part n j * part m k) mask ≡ product (part n j) (part m k) =
    λ j k hj hk e. parts-product n m j k place hn hm hj hk e in
    and_sum (part n 0 * part m a) (part n 1 * part m b) (part n 2 * part m c) (part n 3 * part m d) mask
    ∙ (λ i. sum_of_four (one 0 a (omega arith) ha pa i) (one 1 b (omega arith) hb pb i) (one 2 c (omega arith) hc pc i) (one 3 d (omega arith) hd pd i))

-- the product as the sum of all products of parts, each diagonal together
product-parts : (n m : ℕ) → n < 2 ^ 32 → m < 2 ^ 32 → let p = λ (j k : ℕ). product (part n j) (part m k) in
    product n m ≡ sum_of_four (sum_of_four (p 0 0) (p 1 3) (p 2 2) (p 3 1)) (sum_of_four (p 0 1) (p 1 0) (p 2 3) (p 3 2))
    (sum_of_four (p 0 2) (p 1 1) (p 2 0) (p 3 3)) (sum_of_four (p 0 3) (p 1 2) (p 2 1) (p 3 0))
product-parts n m hn hm =
    let p : ℕ → ℕ → ℕ = λ j k. product (part n j) (part m k) in
    let row : (j : ℕ) → product (part n j) m ≡ sum_of_four (p j 0) (p j 1) (p j 2) (p j 3) = λ j.
    ap (product (part n j)) (sum_of_parts m hm)
    ∙ four_right (part n j) (part m 0) (part m 1) (part m 2) (part m 3) (part-lt n j hn) (part-lt m 0 hm) (part-lt m 1 hm) (part-lt m 2 hm) (part-lt m 3 hm) in
    let row1 : product (part n 1) m ≡ sum_of_four (p 1 3) (p 1 0) (p 1 1) (p 1 2) = row 1 ∙ turn (p 1 0) (p 1 1) (p 1 2) (p 1 3) in
    let row2 : product (part n 2) m ≡ sum_of_four (p 2 2) (p 2 3) (p 2 0) (p 2 1) =
    row 2 ∙ turn (p 2 0) (p 2 1) (p 2 2) (p 2 3) ∙ turn (p 2 3) (p 2 0) (p 2 1) (p 2 2) in
    let row3 : product (part n 3) m ≡ sum_of_four (p 3 1) (p 3 2) (p 3 3) (p 3 0) =
    row 3 ∙ turn (p 3 0) (p 3 1) (p 3 2) (p 3 3) ∙ turn (p 3 3) (p 3 0) (p 3 1) (p 3 2) ∙ turn (p 3 2) (p 3 3) (p 3 0) (p 3 1) in
    ap (λ a. product a m) (sum_of_parts n hn)
    ∙ four_left (part n 0) (part n 1) (part n 2) (part n 3) m (part-lt n 0 hn) (part-lt n 1 hn) (part-lt n 2 hn) (part-lt n 3 hn) hm
    ∙ (λ i. sum_of_four (row 0 i) (row1 i) (row2 i) (row3 i))
    ∙ ap (λ s. bit_xor (bit_xor s (sum_of_four (p 2 2) (p 2 3) (p 2 0) (p 2 1))) (sum_of_four (p 3 1) (p 3 2) (p 3 3) (p 3 0)))
    (sums_two (p 0 0) (p 0 1) (p 0 2) (p 0 3) (p 1 3) (p 1 0) (p 1 1) (p 1 2))
    ∙ ap (λ s. bit_xor s (sum_of_four (p 3 1) (p 3 2) (p 3 3) (p 3 0)))
    (sums_two (bit_xor (p 0 0) (p 1 3)) (bit_xor (p 0 1) (p 1 0)) (bit_xor (p 0 2) (p 1 1)) (bit_xor (p 0 3) (p 1 2)) (p 2 2) (p 2 3) (p 2 0) (p 2 1))
    ∙ sums_two (bit_xor (bit_xor (p 0 0) (p 1 3)) (p 2 2)) (bit_xor (bit_xor (p 0 1) (p 1 0)) (p 2 3)) (bit_xor (bit_xor (p 0 2) (p 1 1)) (p 2 0)) (bit_xor (bit_xor (p 0 3) (p 1 2)) (p 2 1)) (p 3 1) (p 3 2) (p 3 3) (p 3 0)

-- the product of two words from four sums of products of parts
pub product-diagonals : (n m : ℕ) → n < 2 ^ 32 → m < 2 ^ 32 → let q = λ (j k : ℕ). part n j * part m k in
    sum_of_four (bit_and (sum_of_four (q 0 0) (q 1 3) (q 2 2) (q 3 1)) 0x1111_1111_1111_1111)
    (bit_and (sum_of_four (q 0 1) (q 1 0) (q 2 3) (q 3 2)) 0x2222_2222_2222_2222)
    (bit_and (sum_of_four (q 0 2) (q 1 1) (q 2 0) (q 3 3)) 0x4444_4444_4444_4444)
    (bit_and (sum_of_four (q 0 3) (q 1 2) (q 2 1) (q 3 0)) 0x8888_8888_8888_8888) ≡ product n m
product-diagonals n m hn hm =
    (λ i. sum_of_four
    (diagonal n m 0 3 2 1 0 hn hm (omega arith) (omega arith) (omega arith) (omega arith) refl refl refl refl i)
    (diagonal n m 1 0 3 2 1 hn hm (omega arith) (omega arith) (omega arith) (omega arith) refl refl refl refl i)
    (diagonal n m 2 1 0 3 2 hn hm (omega arith) (omega arith) (omega arith) (omega arith) refl refl refl refl i)
    (diagonal n m 3 2 1 0 3 hn hm (omega arith) (omega arith) (omega arith) (omega arith) refl refl refl refl i))
    ∙ sym (product-parts n m hn hm)
