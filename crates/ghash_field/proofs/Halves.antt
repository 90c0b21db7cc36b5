-- The product of polynomials by products of their halves.
use Rattle.std.proofs.Common.{◌≡◌, ℕ, ◌+◌, ◌*◌, ◌/◌, ◌%◌, ◌^◌, ◌<◌, ◌≤◌, List, bit_xor, slice_index, refl, sym, ap, ◌∙◌, arith, mod-lt}
use Rattle.std.proofs.lemmas.Nat.{pow_pos, pow-add, shr_below, shr_split, shl_below, field_of, xor_lt, xor_block, xor_shr, xor_mod}
use Rattle.std.proofs.Math.Nat.{mod-eq_of_lt}
use Rattle.std.specs.Int.Bits.{xor_zero_l, xor_zero_r, xor_self, xor_assoc, xor_comm, xor_shifted}
use Rattle.ghash_field.specs.Words.{word, words_of, joined, whole_of}
use Rattle.ghash_field.specs.Polynomial.{product}
use Rattle.ghash_field.proofs.ProductLaws.{widened, product-linear_left, product-linear_right, product-shift, product-shift_left}
use Rattle.ghash_field.proofs.Sums.{xor_swap}

-- a sum of multiples of 2 ^ k
shl-xor : (k a b : ℕ) → bit_xor a b * 2 ^ k ≡ bit_xor (a * 2 ^ k) (b * 2 ^ k)
shl-xor k a b =
    let plain : (c : ℕ) → c * 2 ^ k + 0 ≡ c * 2 ^ k = λ c. omega arith in
    sym ((λ i. bit_xor (sym (plain a) i) (sym (plain b) i)) ∙ xor_block k a b 0 0 (pow_pos k) (pow_pos k)
    ∙ ap (λ z. bit_xor a b * 2 ^ k + z) (xor_zero_l 0) ∙ plain (bit_xor a b))

-- what is joined from sums is the sum of what is joined
joined-xor : (k a b c d e f : ℕ) → joined k (bit_xor a d) (bit_xor b e) (bit_xor c f) ≡ bit_xor (joined k a b c) (joined k d e f)
unfolding joined
joined-xor k a b c d e f =
    let m : ℕ = bit_xor (bit_xor a b) c in
    let n : ℕ = bit_xor (bit_xor d e) f in
    let middle : bit_xor (bit_xor (bit_xor a d) (bit_xor b e)) (bit_xor c f) ≡ bit_xor m n =
    ap (λ s. bit_xor s (bit_xor c f)) (xor_swap a d b e) ∙ xor_swap (bit_xor a b) (bit_xor d e) c f in
    (λ i. bit_xor (bit_xor (bit_xor a d) ((ap (λ s. s * 2 ^ k) middle ∙ shl-xor k m n) i)) (shl-xor (2 * k) b e i))
    ∙ ap (λ s. bit_xor s (bit_xor (b * 2 ^ (2 * k)) (e * 2 ^ (2 * k)))) (xor_swap a d (m * 2 ^ k) (n * 2 ^ k))
    ∙ xor_swap (bit_xor a (m * 2 ^ k)) (bit_xor d (n * 2 ^ k)) (b * 2 ^ (2 * k)) (e * 2 ^ (2 * k))

-- what is left of three sums
cancelled : (c0 c1 m n : ℕ) → bit_xor (bit_xor c0 c1) (bit_xor (bit_xor c0 m) (bit_xor n c1)) ≡ bit_xor m n
cancelled c0 c1 m n =
    let inner : bit_xor (bit_xor c0 m) (bit_xor n c1) ≡ bit_xor (bit_xor c0 c1) (bit_xor m n) =
    ap (bit_xor (bit_xor c0 m)) (xor_comm n c1) ∙ xor_swap c0 m c1 n in
    ap (bit_xor (bit_xor c0 c1)) inner ∙ sym (xor_assoc (bit_xor c0 c1) (bit_xor c0 c1) (bit_xor m n))
    ∙ ap (λ s. bit_xor s (bit_xor m n)) (xor_self (bit_xor c0 c1)) ∙ xor_zero_l (bit_xor m n)

-- the product of two polynomials in halves
halves : (k a0 a1 b0 b1 : ℕ) → k + k ≤ 128 → a0 < 2 ^ k → a1 < 2 ^ k → b0 < 2 ^ k → b1 < 2 ^ k
    → product (bit_xor a0 (a1 * 2 ^ k)) (bit_xor b0 (b1 * 2 ^ k))
    ≡ joined k (product a0 b0) (product a1 b1) (product (bit_xor a0 a1) (bit_xor b0 b1))
unfolding joined
halves k a0 a1 b0 b1 le la0 la1 lb0 lb1 =
    let wide : (c : ℕ) → c < 2 ^ k → c < 2 ^ 128 = λ c lt. widened c k 128 (omega arith) lt in
    let high : (c : ℕ) → c < 2 ^ k → c * 2 ^ k < 2 ^ 128 = λ c lt. widened (c * 2 ^ k) (k + k) 128 le (shl_below c k k lt) in
    let p : ℕ = a1 * 2 ^ k in
    let q : ℕ = b1 * 2 ^ k in
    let c0 : ℕ = product a0 b0 in
    let c1 : ℕ = product a1 b1 in
    let m : ℕ = product a0 b1 in
    let n : ℕ = product a1 b0 in
    let ha0 = wide a0 la0 in
    let ha1 = wide a1 la1 in
    let hb0 = wide b0 lb0 in
    let hb1 = wide b1 lb1 in
    let hp : p < 2 ^ 128 = high a1 la1 in
    let hq : q < 2 ^ 128 = high b1 lb1 in
    let four : (r s t u : ℕ) → r < 2 ^ 128 → s < 2 ^ 128 → t < 2 ^ 128 → u < 2 ^ 128
    → product (bit_xor r s) (bit_xor t u) ≡ bit_xor (bit_xor (product r t) (product r u)) (bit_xor (product s t) (product s u)) =
    λ r s t u hr hs ht hu. product-linear_left r s (bit_xor t u) hr hs (xor_lt 128 t u ht hu)
    ∙ (λ i. bit_xor (product-linear_right r t u hr ht hu i) (product-linear_right s t u hs ht hu i)) in
    let both : bit_xor (bit_xor c0 c1) (product (bit_xor a0 a1) (bit_xor b0 b1)) ≡ bit_xor m n =
    ap (bit_xor (bit_xor c0 c1)) (four a0 a1 b0 b1 ha0 ha1 hb0 hb1) ∙ cancelled c0 c1 m n in
    let upper : product p q ≡ c1 * 2 ^ (2 * k) =
    product-shift p b1 k hp hq ∙ ap (λ z. z * 2 ^ k) (product-shift_left a1 b1 k hp hb1)
    ∙ (let e : 2 * k ≡ k + k = omega arith in let f : c1 * 2 ^ k * 2 ^ k ≡ c1 * (2 ^ k * 2 ^ k) = omega arith in
    f ∙ ap (λ z. c1 * z) (sym (pow-add 2 k k)) ∙ ap (λ j. c1 * 2 ^ j) (sym e)) in
    four a0 p b0 q ha0 hp hb0 hq
    ∙ (λ i. bit_xor (bit_xor c0 (product-shift a0 b1 k ha0 hq i)) (bit_xor (product-shift_left a1 b0 k hp hb0 i) (upper i)))
    ∙ sym (xor_assoc (bit_xor c0 (m * 2 ^ k)) (n * 2 ^ k) (c1 * 2 ^ (2 * k)))
    ∙ ap (λ z. bit_xor z (c1 * 2 ^ (2 * k))) (
    xor_assoc c0 (m * 2 ^ k) (n * 2 ^ k) ∙ ap (bit_xor c0) (sym (shl-xor k m n) ∙ ap (λ z. z * 2 ^ k) (sym both)))

-- a number as the sum of its halves
split : (k a : ℕ) → a ≡ bit_xor (a % 2 ^ k) (a / 2 ^ k * 2 ^ k)
split k a =
    sym (xor_comm (a % 2 ^ k) (a / 2 ^ k * 2 ^ k) ∙ xor_shifted (a / 2 ^ k) k (a % 2 ^ k) (mod-lt a (pow_pos k)) ∙ shr_split a k)

-- the product of two polynomials, by their halves
halved : (k a b : ℕ) → k + k ≤ 128 → a < 2 ^ (k + k) → b < 2 ^ (k + k)
    → product a b ≡ joined k (product (a % 2 ^ k) (b % 2 ^ k)) (product (a / 2 ^ k) (b / 2 ^ k))
    (product (bit_xor (a % 2 ^ k) (a / 2 ^ k)) (bit_xor (b % 2 ^ k) (b / 2 ^ k)))
halved k a b le ha hb =
    (λ i. product (split k a i) (split k b i))
    ∙ halves k (a % 2 ^ k) (a / 2 ^ k) (b % 2 ^ k) (b / 2 ^ k) le
    (mod-lt a (pow_pos k)) (shr_below a k k ha) (mod-lt b (pow_pos k)) (shr_below b k k hb)

-- entry k of a polynomial's words
abbrev pub entry : ℕ → ℕ → ℕ
entry p k = slice_index (words_of p) k

-- the polynomial that sums stand for, from a function that has them
abbrev pub whole_at : (ℕ → ℕ) → ℕ
whole_at f = joined 64 (joined 32 (f 0) (f 1) (f 6)) (joined 32 (f 2) (f 3) (f 7)) (joined 32 (f 4) (f 5) (f 8))

-- the product of polynomials by the products of their words
words-product : (a b : ℕ) → a < 2 ^ 128 → b < 2 ^ 128 → whole_at (λ k. product (entry a k) (entry b k)) ≡ product a b
unfolding words_of
words-product a b ha hb =
    let l : ℕ → ℕ = λ c. c % 2 ^ 64 in
    let h : ℕ → ℕ = λ c. c / 2 ^ 64 in
    let low : (c : ℕ) → l c % 2 ^ 32 ≡ word c 0 = λ c. omega arith in
    let lowhigh : (c : ℕ) → l c / 2 ^ 32 ≡ word c 32 = λ c. field_of c 32 32 in
    let high : (c : ℕ) → h c % 2 ^ 32 ≡ word c 64 = λ c. refl in
    let highhigh : (c : ℕ) → c < 2 ^ 128 → h c / 2 ^ 32 ≡ word c 96 = λ c lt. omega arith in
    let ll : (c : ℕ) → l c < 2 ^ 64 = λ c. mod-lt c (pow_pos 64) in
    let lh : (c : ℕ) → c < 2 ^ 128 → h c < 2 ^ 64 = λ c lt. omega arith in
    let sum : ℕ → ℕ = λ c. bit_xor (l c) (h c) in
    let ls : (c : ℕ) → c < 2 ^ 128 → sum c < 2 ^ 64 = λ c lt. xor_lt 64 _ _ (ll c) (lh c lt) in
    let sumlow : (c : ℕ) → sum c % 2 ^ 32 ≡ bit_xor (word c 0) (word c 64) = λ c. xor_mod (l c) (h c) 32 ∙ (λ i. bit_xor (low c i) (high c i)) in
    let sumhigh : (c : ℕ) → c < 2 ^ 128 → sum c / 2 ^ 32 ≡ bit_xor (word c 32) (word c 96) =
    λ c lt. xor_shr (l c) (h c) 32 ∙ (λ i. bit_xor (lowhigh c i) (highhigh c lt i)) in
    let three : (p q p0 q0 p1 q1 : ℕ) → p < 2 ^ 64 → q < 2 ^ 64 → p % 2 ^ 32 ≡ p0 → q % 2 ^ 32 ≡ q0 → p / 2 ^ 32 ≡ p1 → q / 2 ^ 32 ≡ q1
    → product p q ≡ joined 32 (product p0 q0) (product p1 q1) (product (bit_xor p0 p1) (bit_xor q0 q1)) =
    λ p q p0 q0 p1 q1 hp hq e0 f0 e1 f1.
    halved 32 p q (omega arith) hp hq
    ∙ (λ i. joined 32 (product (e0 i) (f0 i)) (product (e1 i) (f1 i)) (product (bit_xor (e0 i) (e1 i)) (bit_xor (f0 i) (f1 i)))) in
    let one = three (l a) (l b) (word a 0) (word b 0) (word a 32) (word b 32) (ll a) (ll b) (low a) (low b) (lowhigh a) (lowhigh b) in
    let two = three (h a) (h b) (word a 64) (word b 64) (word a 96) (word b 96) (lh a ha) (lh b hb) (high a) (high b) (highhigh a ha) (highhigh b hb) in
    let all = three (sum a) (sum b) (bit_xor (word a 0) (word a 64)) (bit_xor (word b 0) (word b 64)) (bit_xor (word a 32) (word a 96)) (bit_xor (word b 32) (word b 96))
    (ls a ha) (ls b hb) (sumlow a) (sumlow b) (sumhigh a ha) (sumhigh b hb) in
    sym (halved 64 a b (omega arith) ha hb ∙ (λ i. joined 64 (one i) (two i) (all i)))

-- a sum of sums, term by term
whole-xor : (f g : ℕ → ℕ) → whole_at (λ k. bit_xor (f k) (g k)) ≡ bit_xor (whole_at f) (whole_at g)
whole-xor f g =
    let three : (i j k : ℕ) → joined 32 (bit_xor (f i) (g i)) (bit_xor (f j) (g j)) (bit_xor (f k) (g k)) ≡ bit_xor (joined 32 (f i) (f j) (f k)) (joined 32 (g i) (g j) (g k)) =
    λ i j k. joined-xor 32 (f i) (f j) (f k) (g i) (g j) (g k) in
    (λ n. joined 64 (three 0 1 6 n) (three 2 3 7 n) (three 4 5 8 n))
    ∙ joined-xor 64 (joined 32 (f 0) (f 1) (f 6)) (joined 32 (f 2) (f 3) (f 7)) (joined 32 (f 4) (f 5) (f 8))
    (joined 32 (g 0) (g 1) (g 6)) (joined 32 (g 2) (g 3) (g 7)) (joined 32 (g 4) (g 5) (g 8))

-- sums that are those of a function
pub whole-same : (f : ℕ → ℕ) (sums : List ℕ) → ((k : ℕ) → k < 9 → slice_index sums k ≡ f k) → whole_of sums ≡ whole_at f
unfolding whole_of
whole-same f sums e =
    λ i. joined 64 (joined 32 (e 0 (omega arith) i) (e 1 (omega arith) i) (e 6 (omega arith) i))
    (joined 32 (e 2 (omega arith) i) (e 3 (omega arith) i) (e 7 (omega arith) i))
    (joined 32 (e 4 (omega arith) i) (e 5 (omega arith) i) (e 8 (omega arith) i))

-- the product of the k-th words of two polynomials
abbrev pub word_product : ℕ → ℕ → ℕ → ℕ
word_product p q k = product (entry p k) (entry q k)

-- two products
pub whole-two : (p q r s : ℕ) → p < 2 ^ 128 → q < 2 ^ 128 → r < 2 ^ 128 → s < 2 ^ 128
    → whole_at (λ k. bit_xor (word_product p r k) (word_product q s k)) ≡ bit_xor (product p r) (product q s)
whole-two p q r s hp hq hr hs =
    whole-xor (word_product p r) (word_product q s) ∙ (λ i. bit_xor (words-product p r hp hr i) (words-product q s hq hs i))

-- four products
pub whole-four : (a b c d e f g h : ℕ) → a < 2 ^ 128 → b < 2 ^ 128 → c < 2 ^ 128 → d < 2 ^ 128 → e < 2 ^ 128 → f < 2 ^ 128 → g < 2 ^ 128 → h < 2 ^ 128
    → whole_at (λ k. bit_xor (bit_xor (word_product a e k) (word_product c g k)) (bit_xor (word_product b f k) (word_product d h k)))
    ≡ bit_xor (bit_xor (product a e) (product c g)) (bit_xor (product b f) (product d h))
whole-four a b c d e f g h ha hb hc hd he hf hg hh =
    whole-xor (λ k. bit_xor (word_product a e k) (word_product c g k)) (λ k. bit_xor (word_product b f k) (word_product d h k))
    ∙ (λ i. bit_xor (whole-two a c e g ha hc he hg i) (whole-two b d f h hb hd hf hh i))

-- the terms from x ^ 128 on of what is joined of halves
pub joined-high : (l h b : ℕ) → l < 2 ^ 128 → joined 64 l h b / 2 ^ 128 ≡ bit_xor h (bit_xor (bit_xor l h) b / 2 ^ 64)
unfolding joined
joined-high l h b lt =
    let m : ℕ = bit_xor (bit_xor l h) b in
    let none : l / 2 ^ 128 ≡ 0 = omega arith in
    let middle : m * 2 ^ 64 / 2 ^ 128 ≡ m / 2 ^ 64 = omega arith in
    let top : h * 2 ^ 128 / 2 ^ 128 ≡ h = omega arith in
    xor_shr (bit_xor l (m * 2 ^ 64)) (h * 2 ^ 128) 128
    ∙ (λ i. bit_xor (xor_shr l (m * 2 ^ 64) 128 i) (top i))
    ∙ (λ i. bit_xor (bit_xor (none i) (middle i)) h)
    ∙ ap (λ z. bit_xor z h) (xor_zero_l (m / 2 ^ 64)) ∙ xor_comm (m / 2 ^ 64) h

-- and those below
pub joined-low : (l h b : ℕ) → l < 2 ^ 128 → joined 64 l h b % 2 ^ 128 ≡ bit_xor l (bit_xor (bit_xor l h) b * 2 ^ 64 % 2 ^ 128)
unfolding joined
joined-low l h b lt =
    let m : ℕ = bit_xor (bit_xor l h) b in
    let top : h * 2 ^ 128 % 2 ^ 128 ≡ 0 = omega arith in
    xor_mod (bit_xor l (m * 2 ^ 64)) (h * 2 ^ 128) 128
    ∙ (λ i. bit_xor (xor_mod l (m * 2 ^ 64) 128 i) (top i))
    ∙ xor_zero_r _
    ∙ ap (λ z. bit_xor z (m * 2 ^ 64 % 2 ^ 128)) (mod-eq_of_lt lt)
