-- A product of polynomials by products of their words.
use Rattle.std.specs.Prelude.{◌≡◌, ℕ, ◌*◌, ◌/◌, ◌%◌, ◌<◌, ◌^◌, List, [], ◌∷◌, bit_xor, slice_index, slice_index_or}
use Rattle.ghash_field.specs.Holes.{AreParts, vectors_of}
use Rattle.ghash_field.specs.declared.carryless.Parts.{Parts}

-- the 32 terms from x ^ place on
abbrev pub word : ℕ → ℕ → ℕ
word p place = p / 2 ^ place % 2 ^ 32

-- a polynomial's words, the lower half plus the upper half, and the sums of the two words of each of
-- these three
unfoldable pub words_of : ℕ → List ℕ
words_of p =
    let a = word p 0 in
    let b = word p 32 in
    let c = word p 64 in
    let d = word p 96 in
    a ∷ b ∷ c ∷ d ∷ bit_xor a c ∷ bit_xor b d ∷ bit_xor a b ∷ bit_xor c d ∷ bit_xor (bit_xor a c) (bit_xor b d) ∷ []

-- entry k of the words of each of two polynomials
abbrev pub two_words : ℕ → ℕ → ℕ → List ℕ
two_words p q k = slice_index (words_of p) k ∷ slice_index (words_of q) k ∷ []

-- what `slice_index_or` gives past the end
abbrev pub no_parts : Parts
no_parts = record { part_0 = []; part_1 = []; part_2 = []; part_3 = [] }

-- the lanes have the words of p and of q
abbrev pub AreLanes : ℕ → ℕ → List (List ℕ) → Type 0
AreLanes p q lanes = (k : ℕ) → k < 9 → slice_index_or lanes k [] ≡ two_words p q k

-- the parts are those of the words of p and of q
abbrev pub AreLaneParts : ℕ → ℕ → List Parts → Type 0
AreLaneParts p q parts = (k : ℕ) → k < 9 → AreParts (two_words p q k) (vectors_of (slice_index_or parts k no_parts))

-- the product of two polynomials in halves, the upper one from x ^ k on: from the product of the
-- lower halves, that of the upper halves, and that of the sums of the halves
unfoldable pub joined : ℕ → ℕ → ℕ → ℕ → ℕ
joined k low high both = bit_xor (bit_xor low (bit_xor (bit_xor low high) both * 2 ^ k)) (high * 2 ^ (2 * k))

-- the product of two polynomials, from the products of their words
unfoldable pub whole_of : List ℕ → ℕ
whole_of sums = joined 64
    (joined 32 (slice_index sums 0) (slice_index sums 1) (slice_index sums 6))
    (joined 32 (slice_index sums 2) (slice_index sums 3) (slice_index sums 7))
    (joined 32 (slice_index sums 4) (slice_index sums 5) (slice_index sums 8))
