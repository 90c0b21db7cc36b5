-- The inverse cipher of FIPS 197 (5.3), for a key of 16 bytes.
use Rattle.std.specs.Prelude.{ℕ, zero, suc, ◌+◌, ◌-◌, ◌%◌, List, [], ◌∷◌}
use Rattle.aes_block.specs.SBox.{inv_s_box}
use Rattle.aes_block.specs.State.{cell, state_of}
use Rattle.aes_block.specs.KeySchedule.{round_key}
use Rattle.aes_block.specs.Cipher.{add_round_key, circulant, matrix_times}

-- InvShiftRows (5.3.1): row r turns right by r places
unfoldable pub inv_shift_rows : List ℕ → List ℕ
inv_shift_rows s = state_of (λ r c. cell s r ((c + 4 - r) % 4))

-- InvSubBytes (5.3.2)
unfoldable pub inv_sub_bytes : List ℕ → List ℕ
inv_sub_bytes s = state_of (λ r c. inv_s_box (cell s r c))

abbrev pub inv_mix_matrix : ℕ → ℕ → ℕ
inv_mix_matrix = circulant (0x0e ∷ 0x0b ∷ 0x0d ∷ 0x09 ∷ [])

-- InvMixColumns (5.3.3)
unfoldable pub inv_mix_columns : List ℕ → List ℕ
inv_mix_columns s = state_of (matrix_times inv_mix_matrix s)

-- the state after rounds 9 down to 10 - n
unfoldable pub inv_rounds : List ℕ → List ℕ → ℕ → List ℕ
inv_rounds key block zero = add_round_key block (round_key key 10)
inv_rounds key block (suc n) =
    inv_mix_columns
    (add_round_key (inv_sub_bytes (inv_shift_rows (inv_rounds key block n))) (round_key key (9 - n)))

-- the block deciphered under the key
unfoldable pub inv_cipher : List ℕ → List ℕ → List ℕ
inv_cipher key block =
    add_round_key (inv_sub_bytes (inv_shift_rows (inv_rounds key block 9))) (round_key key 0)
