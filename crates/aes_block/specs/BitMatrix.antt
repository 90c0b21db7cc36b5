-- The bits of one lane of eight vectors as a matrix of eight rows and eight columns.
use Rattle.std.specs.Prelude.{ℕ, ◌+◌, ◌-◌, ◌*◌, ◌/◌, ◌%◌, ◌^◌, List, [], map, bit_and, bit_xor, slice_index, slice_index_or}
use Rattle.std.specs.Int.{bit_at}
use Rattle.std.specs.List.{range_with_len}
use Rattle.aes_block.specs.Planes.{lane}

-- the eight bits of a byte, the lowest first
abbrev pub bits : ℕ → List ℕ
bits b = map (bit_at b) (range_with_len 0 8)

-- the matrix of lane j: row i has the bits of vector i
abbrev pub bit_matrix : List (List ℕ) → ℕ → List (List ℕ)
bit_matrix x j = map (λ i. bits (lane x i j)) (range_with_len 0 8)

abbrev pub matrix_of : (ℕ → ℕ → ℕ) → List (List ℕ)
matrix_of f = map (λ i. map (f i) (range_with_len 0 8)) (range_with_len 0 8)

abbrev pub entry : List (List ℕ) → ℕ → ℕ → ℕ
entry m i k = slice_index (slice_index_or m i []) k

-- the index i, but with k's bit of weight n
abbrev pub with_bit : ℕ → ℕ → ℕ → ℕ
with_bit n i k = i - i / n % 2 * n + k / n % 2 * n

-- the rows' bit of weight n exchanged with the columns': at 1, 2 and 4, the transpose
abbrev pub exchanged : ℕ → List (List ℕ) → List (List ℕ)
exchanged n m = matrix_of (λ i k. entry m (with_bit n i k) (with_bit n k i))

-- where two rows differ, in the places of `low`: a's bits moved down by n places, against b's
abbrev pub difference : ℕ → ℕ → ℕ → ℕ → ℕ
difference n low a b = bit_and (bit_xor (a / 2 ^ n) b) low

-- a pair of rows with n between them, exchanged: `low` has the places whose bit of weight n is 0
abbrev pub low_row : ℕ → ℕ → ℕ → ℕ → ℕ
low_row n low a b = bit_xor a (difference n low a b * 2 ^ n % 2 ^ 8)

abbrev pub high_row : ℕ → ℕ → ℕ → ℕ → ℕ
high_row n low a b = bit_xor b (difference n low a b)
