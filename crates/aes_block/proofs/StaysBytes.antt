-- Every step of the cipher gives bytes.
use Rattle.std.proofs.Common.{◌≡◌, ℕ, zero, suc, ◌+◌, ◌-◌, ◌*◌, ◌/◌, ◌%◌, ◌<◌, List, [], ◌∷◌, ◌++◌, Bool, true, false, length, slice_index, refl, sym, ap, subst, ◌∙◌, arith, bit_xor, inl, inr}
use Rattle.std.specs.Prelude.{if◌then◌else◌, ◌==◌}
use Rattle.std.proofs.lemmas.Bool.{cases_lt}
use Rattle.std.proofs.lemmas.List.{get_or_append_left, get_or_push, get_or_past, length_push}
use Rattle.std.proofs.lemmas.Nat.{xor_of_8}
use lib.Lanes.{Each1}
use Rattle.aes_block.specs.Cipher.{add_round_key, cipher, matrix_times, mix_columns, mix_matrix, rounds, shift_rows, sub_bytes}
use Rattle.aes_block.specs.Field.{field_times, inverse, polynomial_times, remainder}
use Rattle.aes_block.specs.KeySchedule.{add_words, next_word, rcon, rot_word, round_constants, round_key, schedule, stirred, sub_word, word_at}
use Rattle.aes_block.specs.SBox.{affine_bit, s_box}
use Rattle.aes_block.specs.State.{IsBytes, cell, column_of, state_of}
use Rattle.aes_block.proofs.AllBytes.{below_all, same_at_byte, values}
use Rattle.aes_block.proofs.ByteBits.{from_bits_lt}
use Rattle.aes_block.proofs.Schedule.{length-schedule}

nil_bytes : IsBytes []
nil_bytes k = omega arith

-- from a fact of each element
pub bytes_from : (xs : List ℕ) → Each1 (λ x. x < 256) xs → IsBytes xs
bytes_from [] h k = omega arith
bytes_from (x ∷ xs) h zero = h.0
bytes_from (x ∷ xs) h (suc k) = bytes_from xs h.1 k

four_bytes : (f : ℕ → ℕ) → ((r : ℕ) → f r < 256) → IsBytes (column_of f)
four_bytes f h = bytes_from (column_of f) (h 0, (h 1, (h 2, (h 3, tt))))

pub state_bytes : (f : ℕ → ℕ → ℕ) → ((r c : ℕ) → f r c < 256) → IsBytes (state_of f)
state_bytes f h = bytes_from (state_of f)
    (h 0 0, (h 1 0, (h 2 0, (h 3 0, (h 0 1, (h 1 1, (h 2 1, (h 3 1, (h 0 2, (h 1 2, (h 2 2, (h 3 2, (h 0 3, (h 1 3, (h 2 3, (h 3 3, tt))))))))))))))))

pub s_box_lt : (b : ℕ) → s_box b < 256
unfolding s_box
s_box_lt b = from_bits_lt (affine_bit (inverse b)) 8 (λ i. omega arith)

products-all : (m : ℕ) → m < 4 → values (λ b. field_times m b / 256) ≡ values (λ b. 0)
unfolding polynomial_times remainder field_times
products-all zero h = refl
products-all (suc zero) h = refl
products-all (suc (suc zero)) h = refl
products-all (suc (suc (suc zero))) h = refl
products-all (suc (suc (suc (suc m)))) h = absurd (omega arith)

product_lt : (m b : ℕ) → m < 4 → b < 256 → field_times m b < 256
product_lt m b h hb =
    let e : field_times m b / 256 ≡ 0 = same_at_byte (λ b. field_times m b / 256) (λ b. 0) (products-all m h) b hb in
    omega arith

entry_lt : (r k : ℕ) → mix_matrix r k < 4
entry_lt r k = below_all 4 (0x02 ∷ 0x03 ∷ 0x01 ∷ 0x01 ∷ []) (omega arith) refl ((k + 4 - r) % 4)

-- ShiftRows after SubBytes
pub shifted_bytes : (s : List ℕ) → IsBytes (shift_rows (sub_bytes s))
unfolding shift_rows sub_bytes
shifted_bytes s = state_bytes (λ r c. cell (state_of (λ r c. s_box (cell s r c))) r ((c + r) % 4))
    (λ r c. state_bytes (λ r c. s_box (cell s r c)) (λ r c. s_box_lt (cell s r c)) (r + 4 * ((c + r) % 4)))

xor_bytes : (a b : ℕ) → a < 256 → b < 256 → bit_xor a b < 256
xor_bytes a b h k = xor_of_8 a b h k

mixed_bytes : (s : List ℕ) → IsBytes s → IsBytes (mix_columns s)
unfolding mix_columns
mixed_bytes s h =
    let p = λ (r k c : ℕ). product_lt (mix_matrix r k) (cell s k c) (entry_lt r k) (h (k + 4 * c)) in
    state_bytes (matrix_times mix_matrix s) (λ r c.
    xor_bytes _ _ (xor_bytes _ _ (xor_bytes _ _ (p r 0 c) (p r 1 c)) (p r 2 c)) (p r 3 c))

pub added_bytes : (s k : List ℕ) → IsBytes s → IsBytes k → IsBytes (add_round_key s k)
unfolding add_round_key
added_bytes s k h g = state_bytes (λ r c. bit_xor (cell s r c) (cell k r c)) (λ r c. xor_bytes _ _ (h (r + 4 * c)) (g (r + 4 * c)))

added_words_bytes : (u v : List ℕ) → IsBytes u → IsBytes v → IsBytes (add_words u v)
added_words_bytes u v h g = four_bytes (λ r. bit_xor (slice_index u r) (slice_index v r)) (λ r. xor_bytes _ _ (h r) (g r))

constant_bytes : IsBytes round_constants
constant_bytes = below_all 256 round_constants (omega arith) refl

rcon_bytes : (i : ℕ) → IsBytes (rcon i)
rcon_bytes i = bytes_from (rcon i) (constant_bytes (i - 1), (omega arith, (omega arith, (omega arith, tt))))

either_bytes : (b : Bool) (u v : List ℕ) → IsBytes u → IsBytes v → IsBytes (if b then u else v)
either_bytes true u v h g = h
either_bytes false u v h g = g

stirred_bytes : (i : ℕ) (t : List ℕ) → IsBytes t → IsBytes (stirred i t)
stirred_bytes i t h =
    let turned : IsBytes (sub_word (rot_word t)) = four_bytes (λ r. s_box (slice_index (rot_word t) r)) (λ r. s_box_lt (slice_index (rot_word t) r)) in
    either_bytes (i % 4 == 0) (add_words (sub_word (rot_word t)) (rcon (i / 4))) t
    (added_words_bytes (sub_word (rot_word t)) (rcon (i / 4)) turned (rcon_bytes (i / 4))) h

words_bytes : (key : List ℕ) → IsBytes key → (n i : ℕ) → IsBytes (word_at (schedule key n) i)
unfolding schedule
words_bytes key h zero zero = four_bytes (λ r. cell key r 0) (λ r. h (r + 0))
words_bytes key h zero (suc zero) = four_bytes (λ r. cell key r 1) (λ r. h (r + 4))
words_bytes key h zero (suc (suc zero)) = four_bytes (λ r. cell key r 2) (λ r. h (r + 8))
words_bytes key h zero (suc (suc (suc zero))) = four_bytes (λ r. cell key r 3) (λ r. h (r + 12))
words_bytes key h zero (suc (suc (suc (suc i)))) = nil_bytes
words_bytes key h (suc n) i =
    let ws : List (List ℕ) = schedule key n in
    let x : List ℕ = next_word ws (n + 4) in
    let len : length ws ≡ n + 4 = length-schedule key n in
    let fresh : IsBytes x = added_words_bytes (word_at ws (n + 4 - 4)) (stirred (n + 4) (word_at ws (n + 4 - 1)))
    (words_bytes key h n (n + 4 - 4)) (stirred_bytes (n + 4) (word_at ws (n + 4 - 1)) (words_bytes key h n (n + 4 - 1))) in
    elim (cases_lt i (n + 4)) [
      | inl lt ↦ subst IsBytes (sym (get_or_append_left ws (x ∷ []) [] i (omega arith))) (words_bytes key h n i)
      | inr ge ↦ elim (cases_lt i (n + 5)) [
        | inl lt ↦
            let e : n + 4 ≡ i = omega arith in
            subst IsBytes (sym (ap (word_at (ws ++ x ∷ [])) (sym e) ∙ get_or_push ws x [] (n + 4) len)) fresh
        | inr past ↦ subst IsBytes (sym (get_or_past (ws ++ x ∷ []) i [] (omega (arith, length_push ws x, len)))) nil_bytes
      ]
    ]

pub round_key_bytes : (key : List ℕ) (n : ℕ) → IsBytes key → IsBytes (round_key key n)
unfolding round_key
round_key_bytes key n h = state_bytes (λ r c. slice_index (word_at (schedule key 40) (4 * n + c)) r) (λ r c. words_bytes key h 40 (4 * n + c) r)

pub rounds_bytes : (key s : List ℕ) (n : ℕ) → IsBytes key → IsBytes s → IsBytes (rounds key s n)
unfolding rounds
rounds_bytes key s zero hk hs = added_bytes s (round_key key 0) hs (round_key_bytes key 0 hk)
rounds_bytes key s (suc n) hk hs =
    added_bytes (mix_columns (shift_rows (sub_bytes (rounds key s n)))) (round_key key (n + 1))
    (mixed_bytes (shift_rows (sub_bytes (rounds key s n))) (shifted_bytes (rounds key s n))) (round_key_bytes key (n + 1) hk)

-- what is enciphered is 16 bytes
pub cipher_bytes : (key block : List ℕ) → IsBytes key → IsBytes (cipher key block)
unfolding cipher
cipher_bytes key block hk =
    added_bytes (shift_rows (sub_bytes (rounds key block 9))) (round_key key 10) (shifted_bytes (rounds key block 9)) (round_key_bytes key 10 hk)

pub length-cipher : (key block : List ℕ) → length (cipher key block) ≡ 16
unfolding cipher add_round_key
length-cipher key block = refl
