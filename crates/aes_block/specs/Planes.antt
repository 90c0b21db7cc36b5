-- Eight blocks in eight planes of 16 lanes: bit t of lane j of plane i is bit i of byte j of block t.
use Rattle.std.specs.Prelude.{◌≡◌, ℕ, ◌+◌, ◌*◌, ◌<◌, List, [], ◌∷◌, length, slice_index, slice_index_or}
use Rattle.std.specs.Int.{bit_at}
use Rattle.aes_block.specs.SBox.{from_bits_of}
use Rattle.aes_block.specs.State.{state_of}
use Rattle.aes_block.specs.Circuit.{Gate}
use Rattle.aes_block.specs.Circuit.Gate.{Sum}

-- each plane has 16 lanes
abbrev pub ArePlanes : List (List ℕ) → Type 0
ArePlanes x = (i : ℕ) → i < 8 → length (slice_index_or x i []) ≡ 16

-- lane j of plane i
abbrev pub lane : List (List ℕ) → ℕ → ℕ → ℕ
lane x i j = slice_index (slice_index_or x i []) j

-- byte j of block t
abbrev pub byte_at : List (List ℕ) → ℕ → ℕ → ℕ
byte_at x t j = from_bits_of (λ i. bit_at (lane x i j) t) 8

-- block t
abbrev pub block_in : List (List ℕ) → ℕ → List ℕ
block_in x t = state_of (λ r c. byte_at x t (r + 4 * c))

-- the product with 02, as a circuit: a shift by one place, and the modulus where the highest bit was set
abbrev pub double_gates : List Gate
double_gates = Sum 0 7 ∷ Sum 3 8 ∷ Sum 5 9 ∷ []

abbrev pub double_outs : List ℕ
double_outs = 10 ∷ 2 ∷ 4 ∷ 1 ∷ 0 ∷ 7 ∷ 8 ∷ 9 ∷ []

-- where the byte in the next row of the same column is
abbrev pub next_row_places : List ℕ
next_row_places = 1 ∷ 2 ∷ 3 ∷ 0 ∷ 5 ∷ 6 ∷ 7 ∷ 4 ∷ 9 ∷ 10 ∷ 11 ∷ 8 ∷ 13 ∷ 14 ∷ 15 ∷ 12 ∷ []

-- where the byte is that ShiftRows moves here
abbrev pub shift_places : List ℕ
shift_places = 0 ∷ 5 ∷ 10 ∷ 15 ∷ 4 ∷ 9 ∷ 14 ∷ 3 ∷ 8 ∷ 13 ∷ 2 ∷ 7 ∷ 12 ∷ 1 ∷ 6 ∷ 11 ∷ []

-- where the byte is that RotWord of the last column moves to this row of each column
abbrev pub turned_places : List ℕ
turned_places = 13 ∷ 14 ∷ 15 ∷ 12 ∷ 13 ∷ 14 ∷ 15 ∷ 12 ∷ 13 ∷ 14 ∷ 15 ∷ 12 ∷ 13 ∷ 14 ∷ 15 ∷ 12 ∷ []
