-- Sums of products of words, two polynomials at once.
use Rattle.std.proofs.Common.{◌≡◌, ℕ, zero, suc, ◌+◌, ◌/◌, ◌%◌, ◌^◌, ◌<◌, List, [], ◌∷◌, bit_and, bit_xor, length, get_or, set, refl, ap, subst, ◌∙◌, arith, mod-lt, below_more}
use Rattle.std.specs.Prelude.{slice_index}
use Rattle.std.proofs.lemmas.List.{get_or-set_same, get_or-set_other}
use Rattle.std.proofs.lemmas.Nat.{pow_pos, xor_lt, and_mask, field_of}
use Rattle.std.specs.Int.Bits.{xor_zero_l}
use Rattle.ghash_field.specs.Holes.{AreAdded, AreParts, AreTwoWords, settled_lane}
use Rattle.ghash_field.specs.Words.{word, words_of, two_words}
use Rattle.ghash_field.proofs.Halves.{entry, word_product}

-- a fact of each number below 9
pub nine_cases : (P : ℕ → Type 0) → P 0 → P 1 → P 2 → P 3 → P 4 → P 5 → P 6 → P 7 → P 8 → (k : ℕ) → k < 9 → P k
nine_cases P p0 p1 p2 p3 p4 p5 p6 p7 p8 zero lt = p0
nine_cases P p0 p1 p2 p3 p4 p5 p6 p7 p8 (suc zero) lt = p1
nine_cases P p0 p1 p2 p3 p4 p5 p6 p7 p8 (suc (suc zero)) lt = p2
nine_cases P p0 p1 p2 p3 p4 p5 p6 p7 p8 (suc (suc (suc zero))) lt = p3
nine_cases P p0 p1 p2 p3 p4 p5 p6 p7 p8 (suc (suc (suc (suc zero)))) lt = p4
nine_cases P p0 p1 p2 p3 p4 p5 p6 p7 p8 (suc (suc (suc (suc (suc zero))))) lt = p5
nine_cases P p0 p1 p2 p3 p4 p5 p6 p7 p8 (suc (suc (suc (suc (suc (suc zero)))))) lt = p6
nine_cases P p0 p1 p2 p3 p4 p5 p6 p7 p8 (suc (suc (suc (suc (suc (suc (suc zero))))))) lt = p7
nine_cases P p0 p1 p2 p3 p4 p5 p6 p7 p8 (suc (suc (suc (suc (suc (suc (suc (suc zero)))))))) lt = p8
nine_cases P p0 p1 p2 p3 p4 p5 p6 p7 p8 (suc (suc (suc (suc (suc (suc (suc (suc (suc k))))))))) lt = absurd (omega arith)

-- words are words
entry-lt : (p k : ℕ) → k < 9 → entry p k < 2 ^ 32
unfolding words_of
entry-lt p =
    let w : (place : ℕ) → word p place < 2 ^ 32 = λ place. mod-lt (p / 2 ^ place) (pow_pos 32) in
    let x : (a b : ℕ) → a < 2 ^ 32 → b < 2 ^ 32 → bit_xor a b < 2 ^ 32 = λ a b la lb. xor_lt 32 a b la lb in
    nine_cases (λ k. entry p k < 2 ^ 32) (w 0) (w 32) (w 64) (w 96)
    (x (word p 0) (word p 64) (w 0) (w 64)) (x (word p 32) (word p 96) (w 32) (w 96))
    (x (word p 0) (word p 32) (w 0) (w 32)) (x (word p 64) (word p 96) (w 64) (w 96))
    (x (bit_xor (word p 0) (word p 64)) (bit_xor (word p 32) (word p 96)) (x (word p 0) (word p 64) (w 0) (w 64)) (x (word p 32) (word p 96) (w 32) (w 96)))

pub two_words-words : (p q k : ℕ) → k < 9 → AreTwoWords (two_words p q k)
two_words-words p q k lt = (refl, two_cases (λ j. slice_index (two_words p q k) j < 2 ^ 32) (entry-lt p k lt) (entry-lt q k lt))
  where
    two_cases : (P : ℕ → Type 0) → P 0 → P 1 → (j : ℕ) → j < 2 → P j
    two_cases P p0 p1 zero less = p0
    two_cases P p0 p1 (suc zero) less = p1
    two_cases P p0 p1 (suc (suc j)) less = absurd (omega arith)

-- the words of no polynomial
pub no_words : (k : ℕ) → k < 9 → two_words 0 0 k ≡ 0 ∷ 0 ∷ []
unfolding words_of
no_words = nine_cases (λ k. two_words 0 0 k ≡ 0 ∷ 0 ∷ []) refl refl refl refl refl refl refl refl refl

-- the four words of a polynomial from its halves, as they are cut
pub word-a : (p low : ℕ) → low ≡ p % 2 ^ 64 → bit_and low 0xffff_ffff ≡ word p 0
word-a p low e = and_mask low 32 ∙ ap (λ n. n % 2 ^ 32) e ∙ omega arith

pub word-b : (p low : ℕ) → low ≡ p % 2 ^ 64 → low / 2 ^ 32 ≡ word p 32
word-b p low e = ap (λ n. n / 2 ^ 32) e ∙ field_of p 32 32

pub word-c : (p : ℕ) → bit_and (p / 2 ^ 64) 0xffff_ffff ≡ word p 64
word-c p = and_mask (p / 2 ^ 64) 32

pub word-d : (p : ℕ) → p < 2 ^ 128 → p / 2 ^ 64 / 2 ^ 32 ≡ word p 96
word-d p lt = omega arith

-- the parts of a vector that has words
pub parts_at : (p q k : ℕ) (x : List ℕ) (parts : List (List ℕ)) → x ≡ two_words p q k → (length x ≡ 2 → AreParts x parts) → AreParts (two_words p q k) parts
parts_at p q k x parts e made = subst (λ v. AreParts v parts) e (made (ap length e))

-- the sums of no product
abbrev pub AreNone : List (List ℕ) → Type 0
AreNone sums = (k : ℕ) → k < 2 → settled_lane sums k ≡ 0

-- one product a lane
pub one_product : (p q r s k : ℕ) (before after : List (List ℕ)) → AreNone before → AreAdded before after (two_words p q k) (two_words r s k)
    → bit_xor (settled_lane after 0) (settled_lane after 1) ≡ bit_xor (word_product p r k) (word_product q s k)
one_product p q r s k before after none added =
    let m : ℕ = word_product p r k in
    let n : ℕ = word_product q s k in
    λ i. bit_xor ((added.1 0 (omega arith) ∙ ap (λ z. bit_xor z m) (none 0 (omega arith)) ∙ xor_zero_l m) i)
    ((added.1 1 (omega arith) ∙ ap (λ z. bit_xor z n) (none 1 (omega arith)) ∙ xor_zero_l n) i)

-- two products a lane
pub two_products : (a b c d e f g h k : ℕ) (before first after : List (List ℕ)) → AreNone before
    → AreAdded before first (two_words a b k) (two_words e f k) → AreAdded first after (two_words c d k) (two_words g h k)
    → bit_xor (settled_lane after 0) (settled_lane after 1)
    ≡ bit_xor (bit_xor (word_product a e k) (word_product c g k)) (bit_xor (word_product b f k) (word_product d h k))
two_products a b c d e f g h k before first after none one two =
    let m : ℕ = word_product a e k in
    let n : ℕ = word_product b f k in
    λ i. bit_xor
    ((two.1 0 (omega arith) ∙ ap (λ z. bit_xor z (word_product c g k)) (one.1 0 (omega arith) ∙ ap (λ z. bit_xor z m) (none 0 (omega arith)) ∙ xor_zero_l m)) i)
    ((two.1 1 (omega arith) ∙ ap (λ z. bit_xor z (word_product d h k)) (one.1 1 (omega arith) ∙ ap (λ z. bit_xor z n) (none 1 (omega arith)) ∙ xor_zero_l n)) i)

-- the sums below n are those of f
abbrev pub AreBelow : (ℕ → ℕ) → List ℕ → ℕ → Type 0
AreBelow f sums n = (j : ℕ) → j < n → slice_index sums j ≡ f j

-- one more sum
pub below-set : (f : ℕ → ℕ) (sums : List ℕ) (n v : ℕ) → n < length sums → v ≡ f n → AreBelow f sums n → AreBelow f (set sums n v) (n + 1)
below-set f sums n v lt e below =
    below_more (λ j. get_or (set sums n v) j 0 ≡ f j) n
    (λ j less. get_or-set_other sums n j v 0 (omega arith) ∙ below j less)
    (get_or-set_same sums n v 0 lt ∙ e)
