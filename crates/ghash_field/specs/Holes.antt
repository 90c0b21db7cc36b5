-- Words of 32 bits as sums of four parts with holes: part j has those bits of the word that stand at place j of each
-- group of four.
use Rattle.std.specs.Prelude.{◌≡◌, ℕ, [], ◌∷◌, ◌*◌, ◌<◌, ◌^◌, List, bit_and, bit_xor, length, slice_index, slice_index_or}
use Rattle.ghash_field.specs.Polynomial.{product}
use Rattle.ghash_field.specs.declared.carryless.Parts.{Parts}

abbrev pub part : ℕ → ℕ → ℕ
part n j = bit_and n (0x1111_1111 * 2 ^ j)

abbrev pub sum_of_four : ℕ → ℕ → ℕ → ℕ → ℕ
sum_of_four a b c d = bit_xor (bit_xor (bit_xor a b) c) d

-- lane k of vector j
abbrev pub lane : List (List ℕ) → ℕ → ℕ → ℕ
lane x j k = slice_index (slice_index_or x j []) k

-- a vector of two words of 32 bits
abbrev pub AreTwoWords : List ℕ → Type 0
AreTwoWords x = (length x ≡ 2) × ((k : ℕ) → k < 2 → slice_index x k < 2 ^ 32)

-- four vectors, each of two lanes
abbrev pub AreVectors : List (List ℕ) → Type 0
AreVectors x = (j : ℕ) → j < 4 → length (slice_index_or x j []) ≡ 2

-- four vectors, each of two words of 32 bits
abbrev pub AreWords : List (List ℕ) → Type 0
AreWords x = (j : ℕ) → j < 4 → AreTwoWords (slice_index_or x j [])

-- vector j has part j of each of the two words of x
abbrev pub AreParts : List ℕ → List (List ℕ) → Type 0
AreParts x parts = (j : ℕ) → j < 4 → (length (slice_index_or parts j []) ≡ 2) × ((k : ℕ) → k < 2 → lane parts j k ≡ part (slice_index x k) j)

-- the four vectors of the parts of two words
abbrev pub vectors_of : Parts → List (List ℕ)
vectors_of parts = parts.part_0 ∷ parts.part_1 ∷ parts.part_2 ∷ parts.part_3 ∷ []

-- the sum, in lane k, of the four products of vectors
abbrev pub sum_of_products : List (List ℕ) → List (List ℕ) → ℕ → ℕ
sum_of_products x y k =
    sum_of_four (lane x 0 k * lane y 0 k) (lane x 1 k * lane y 1 k) (lane x 2 k * lane y 2 k) (lane x 3 k * lane y 3 k)

-- lane k of four sums, each of them cut to its own place of each group of four, and added
abbrev pub settled_lane : List (List ℕ) → ℕ → ℕ
settled_lane sums k =
    sum_of_four (bit_and (lane sums 0 k) 0x1111_1111_1111_1111) (bit_and (lane sums 1 k) 0x2222_2222_2222_2222)
    (bit_and (lane sums 2 k) 0x4444_4444_4444_4444) (bit_and (lane sums 3 k) 0x8888_8888_8888_8888)

-- the sums `after` are the sums `before` with the products of two words x by two words y, lane by lane
abbrev pub AreAdded : List (List ℕ) → List (List ℕ) → List ℕ → List ℕ → Type 0
AreAdded before after x y =
    AreVectors after × ((k : ℕ) → k < 2 → settled_lane after k ≡ bit_xor (settled_lane before k) (product (slice_index x k) (slice_index y k)))
