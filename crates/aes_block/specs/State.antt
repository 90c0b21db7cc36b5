-- The state of FIPS 197 (3.4): 16 bytes in four rows and four columns, of which byte 4 c + r of a
-- block is the one in row r and column c.
use Rattle.std.specs.Prelude.{ℕ, ◌+◌, ◌*◌, ◌<◌, List, [], ◌∷◌, slice_index}

-- each element is a byte
abbrev pub IsBytes : List ℕ → Type 0
IsBytes s = (k : ℕ) → slice_index s k < 256

-- the byte in row r and column c
abbrev pub cell : List ℕ → ℕ → ℕ → ℕ
cell s r c = slice_index s (r + 4 * c)

-- a column, or a word, with the byte f r in row r
abbrev pub column_of : (ℕ → ℕ) → List ℕ
column_of f = f 0 ∷ f 1 ∷ f 2 ∷ f 3 ∷ []

-- the state with the byte f r c in row r and column c
abbrev pub state_of : (ℕ → ℕ → ℕ) → List ℕ
state_of f =
    f 0 0 ∷ f 1 0 ∷ f 2 0 ∷ f 3 0 ∷ f 0 1 ∷ f 1 1 ∷ f 2 1 ∷ f 3 1
    ∷ f 0 2 ∷ f 1 2 ∷ f 2 2 ∷ f 3 2 ∷ f 0 3 ∷ f 1 3 ∷ f 2 3 ∷ f 3 3 ∷ []
