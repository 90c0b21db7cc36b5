-- The cipher of FIPS 197 (5.1), AES with a key of 16 bytes and ten rounds.
use Rattle.std.specs.Prelude.{ℕ, zero, suc, ◌+◌, ◌-◌, ◌%◌, List, [], ◌∷◌, bit_xor, slice_index}
use Rattle.aes_block.specs.Field.{field_times}
use Rattle.aes_block.specs.SBox.{s_box}
use Rattle.aes_block.specs.State.{cell, state_of}
use Rattle.aes_block.specs.KeySchedule.{round_key}

-- SubBytes (5.1.1)
unfoldable pub sub_bytes : List ℕ → List ℕ
sub_bytes s = state_of (λ r c. s_box (cell s r c))

-- ShiftRows (5.1.2): row r turns left by r places
unfoldable pub shift_rows : List ℕ → List ℕ
shift_rows s = state_of (λ r c. cell s r ((c + r) % 4))

-- the entry in row r and column k of the circulant matrix whose first row is a
abbrev pub circulant : List ℕ → ℕ → ℕ → ℕ
circulant a r k = slice_index a ((k + 4 - r) % 4)

-- row r of a matrix times a column
abbrev pub row_times : (ℕ → ℕ → ℕ) → ℕ → ℕ → ℕ → ℕ → ℕ → ℕ
row_times m r x0 x1 x2 x3 =
    bit_xor (bit_xor (bit_xor (field_times (m r 0) x0) (field_times (m r 1) x1)) (field_times (m r 2) x2))
    (field_times (m r 3) x3)

-- the byte in row r and column c of a matrix times the state
abbrev pub matrix_times : (ℕ → ℕ → ℕ) → List ℕ → ℕ → ℕ → ℕ
matrix_times m s r c = row_times m r (cell s 0 c) (cell s 1 c) (cell s 2 c) (cell s 3 c)

abbrev pub mix_matrix : ℕ → ℕ → ℕ
mix_matrix = circulant (0x02 ∷ 0x03 ∷ 0x01 ∷ 0x01 ∷ [])

-- MixColumns (5.1.3)
unfoldable pub mix_columns : List ℕ → List ℕ
mix_columns s = state_of (matrix_times mix_matrix s)

-- AddRoundKey (5.1.4)
unfoldable pub add_round_key : List ℕ → List ℕ → List ℕ
add_round_key s k = state_of (λ r c. bit_xor (cell s r c) (cell k r c))

-- the state after n whole rounds
unfoldable pub rounds : List ℕ → List ℕ → ℕ → List ℕ
rounds key block zero = add_round_key block (round_key key 0)
rounds key block (suc n) =
    add_round_key (mix_columns (shift_rows (sub_bytes (rounds key block n)))) (round_key key (n + 1))

-- the block enciphered under the key: nine whole rounds, and a tenth without MixColumns
unfoldable pub cipher : List ℕ → List ℕ → List ℕ
cipher key block = add_round_key (shift_rows (sub_bytes (rounds key block 9))) (round_key key 10)
