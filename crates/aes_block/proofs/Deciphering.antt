-- The inverse cipher undoes the cipher.
use Rattle.std.proofs.Common.{◌≡◌, ℕ, zero, suc, ◌+◌, ◌-◌, ◌*◌, ◌<◌, List, [], ◌∷◌, length, refl, ap, ◌∙◌, add-one, arith}
use Rattle.aes_block.specs.Cipher.{add_round_key, cipher, mix_columns, rounds, shift_rows, sub_bytes}
use Rattle.aes_block.specs.Field.{field_times, inverse, inverse_below, polynomial_times, remainder}
use Rattle.aes_block.specs.InverseCipher.{inv_cipher, inv_mix_columns, inv_rounds, inv_shift_rows, inv_sub_bytes}
use Rattle.aes_block.specs.KeySchedule.{round_key}
use Rattle.aes_block.specs.SBox.{from_bits_of, inv_s_box, s_box}
use Rattle.aes_block.specs.State.{IsBytes, cell, state_of}
use Rattle.aes_block.proofs.AllBytes.{same_at_byte, values}
use Rattle.aes_block.proofs.FieldLaws.{xor_again}
use Rattle.aes_block.proofs.Schedule.{cells_whole}
use Rattle.aes_block.proofs.StaysBytes.{rounds_bytes, shifted_bytes}
use Rattle.aes_block.proofs.Unmixing.{unmixed_row}

unsubbed-all : values (λ b. inv_s_box (s_box b)) ≡ values (λ b. b)
unfolding polynomial_times remainder field_times inverse_below inverse from_bits_of s_box inv_s_box
unsubbed-all = refl

pub unsubbed : (b : ℕ) → b < 256 → inv_s_box (s_box b) ≡ b
unsubbed = same_at_byte (λ b. inv_s_box (s_box b)) (λ b. b) unsubbed-all

undo_sub_shift : (s : List ℕ) → IsBytes s → inv_sub_bytes (inv_shift_rows (shift_rows (sub_bytes s))) ≡ state_of (cell s)
unfolding sub_bytes shift_rows inv_sub_bytes inv_shift_rows
undo_sub_shift s h = λ i. state_of (λ r c. unsubbed (cell s r c) (h (r + 4 * c)) i)

undo_add : (s k : List ℕ) → add_round_key (add_round_key s k) k ≡ state_of (cell s)
unfolding add_round_key
undo_add s k = λ i. state_of (λ r c. xor_again (cell s r c) (cell k r c) i)

undo_mix : (s : List ℕ) → IsBytes s → inv_mix_columns (mix_columns s) ≡ state_of (cell s)
unfolding mix_columns inv_mix_columns
undo_mix s h =
    let row = λ (r c : ℕ) (lt : r < 4). unmixed_row r (cell s 0 c) (cell s 1 c) (cell s 2 c) (cell s 3 c) lt
    (h (0 + 4 * c)) (h (1 + 4 * c)) (h (2 + 4 * c)) (h (3 + 4 * c)) in
    λ i.
    row 0 0 (omega arith) i ∷ row 1 0 (omega arith) i ∷ row 2 0 (omega arith) i ∷ row 3 0 (omega arith) i
    ∷ row 0 1 (omega arith) i ∷ row 1 1 (omega arith) i ∷ row 2 1 (omega arith) i ∷ row 3 1 (omega arith) i
    ∷ row 0 2 (omega arith) i ∷ row 1 2 (omega arith) i ∷ row 2 2 (omega arith) i ∷ row 3 2 (omega arith) i
    ∷ row 0 3 (omega arith) i ∷ row 1 3 (omega arith) i ∷ row 2 3 (omega arith) i ∷ row 3 3 (omega arith) i ∷ []

-- a step reads only the cells of a state, and gives them all
pub add_cells : (s k : List ℕ) → add_round_key (state_of (cell s)) k ≡ add_round_key s k
unfolding add_round_key
add_cells s k = refl

mixed_cells : (s : List ℕ) → state_of (cell (mix_columns s)) ≡ mix_columns s
unfolding mix_columns
mixed_cells s = refl

shifted_cells : (s : List ℕ) → state_of (cell (shift_rows s)) ≡ shift_rows s
unfolding shift_rows
shifted_cells s = refl

pub rounds_next : (key s : List ℕ) (n : ℕ)
    → rounds key s (n + 1) ≡ add_round_key (mix_columns (shift_rows (sub_bytes (rounds key s n)))) (round_key key (n + 1))
unfolding rounds
rounds_next key s n = ap (rounds key s) (add-one n)

-- after n inverse rounds the state stands before the end of round 10 - n
unrounded : (key s : List ℕ) (bytes : (m : ℕ) → IsBytes (rounds key s m))
    (shifted : (m : ℕ) → IsBytes (shift_rows (sub_bytes (rounds key s m)))) (n m : ℕ) → m + n ≡ 9
    → inv_rounds key (cipher key s) n ≡ shift_rows (sub_bytes (rounds key s m))
unfolding inv_rounds cipher
unrounded key s bytes shifted zero m e =
    let nine : m ≡ 9 = omega arith in
    rw nine (undo_add (shift_rows (sub_bytes (rounds key s 9))) (round_key key 10) ∙ shifted_cells (sub_bytes (rounds key s 9)))
unrounded key s bytes shifted (suc n) m e =
    let before = unrounded key s bytes shifted n (m + 1) (omega arith) in
    let t : List ℕ = shift_rows (sub_bytes (rounds key s m)) in
    let k : List ℕ = round_key key (m + 1) in
    let at : 9 - n ≡ m + 1 = omega arith in
    ap (λ (x : List ℕ). inv_mix_columns (add_round_key (inv_sub_bytes (inv_shift_rows x)) (round_key key (9 - n)))) before
    ∙ ap (λ (x : List ℕ). inv_mix_columns (add_round_key x (round_key key (9 - n)))) (undo_sub_shift (rounds key s (m + 1)) (bytes (m + 1)))
    ∙ ap inv_mix_columns (add_cells (rounds key s (m + 1)) (round_key key (9 - n)))
    ∙ (λ i. inv_mix_columns (add_round_key (rounds_next key s m i) (round_key key (at i))))
    ∙ ap inv_mix_columns (undo_add (mix_columns t) k ∙ mixed_cells t)
    ∙ undo_mix t (shifted m) ∙ shifted_cells (sub_bytes (rounds key s m))

-- decipherment gives the block back
pub deciphered : (key s : List ℕ) → IsBytes key → IsBytes s → length s ≡ 16 → inv_cipher key (cipher key s) ≡ s
unfolding inv_cipher rounds
deciphered key s hk hs long =
    let bytes : (m : ℕ) → IsBytes (rounds key s m) = λ m. rounds_bytes key s m hk hs in
    let shifted : (m : ℕ) → IsBytes (shift_rows (sub_bytes (rounds key s m))) = λ m. shifted_bytes (rounds key s m) in
    ap (λ (x : List ℕ). add_round_key (inv_sub_bytes (inv_shift_rows x)) (round_key key 0)) (unrounded key s bytes shifted 9 0 refl)
    ∙ ap (λ (x : List ℕ). add_round_key x (round_key key 0)) (undo_sub_shift (rounds key s 0) (bytes 0))
    ∙ add_cells (rounds key s 0) (round_key key 0)
    ∙ undo_add s (round_key key 0) ∙ cells_whole s long
