-- The words of the key schedule by their places, and each round key from the one before.
use Rattle.std.proofs.Common.{◌≡◌, ℕ, zero, suc, ◌+◌, ◌-◌, ◌*◌, ◌/◌, ◌%◌, ◌<◌, ◌≤◌, List, [], ◌∷◌, ◌++◌, length, slice_index, refl, sym, ap, ◌∙◌, arith, inl, inr}
use Rattle.std.specs.Prelude.{slice_index_or, if◌then◌else◌, ◌==◌}
use Rattle.std.proofs.lemmas.Simd.{pick_l_whole}
use Rattle.std.proofs.lemmas.Bool.Decides.{nat_tests}
use Rattle.std.proofs.lemmas.List.{get_or_append_left, get_or_push, length_push}
use Rattle.std.proofs.lemmas.Bool.{cases_lt}
use Rattle.aes_block.specs.CodeSteps.{block_of, column, next_round_key}
use Rattle.aes_block.specs.KeySchedule.{add_words, next_word, rcon, rot_word, round_constants, round_key, schedule, stirred, sub_word, word_at}
use Rattle.aes_block.specs.State.{cell, state_of}

pub length-schedule : (key : List ℕ) (n : ℕ) → length (schedule key n) ≡ n + 4
unfolding schedule
length-schedule key zero = refl
length-schedule key (suc n) = omega (arith, length_push (schedule key n) (next_word (schedule key n) (n + 4)), length-schedule key n)

-- next_word sees only what is below i
next_word-push : (ws : List (List ℕ)) (x : List ℕ) (i : ℕ) → 4 ≤ i → i ≤ length ws → next_word (ws ++ x ∷ []) i ≡ next_word ws i
next_word-push ws x i h l =
    let a = get_or_append_left ws (x ∷ []) [] (i - 4) (omega arith) in
    let b = get_or_append_left ws (x ∷ []) [] (i - 1) (omega arith) in
    λ j. add_words (a j) (stirred i (b j))

-- each word past the third is made of those before it
pub word_next : (key : List ℕ) (n i : ℕ) → 4 ≤ i → i < n + 4 → word_at (schedule key n) i ≡ next_word (schedule key n) i
unfolding schedule
word_next key zero i h l = absurd (omega arith)
word_next key (suc n) i h l =
    let len : length (schedule key n) ≡ n + 4 = length-schedule key n in
    let x : List ℕ = next_word (schedule key n) (n + 4) in
    elim (cases_lt i (n + 4)) [
      | inl lt ↦
          get_or_append_left (schedule key n) (x ∷ []) [] i (omega arith) ∙ word_next key n i h lt
          ∙ sym (next_word-push (schedule key n) x i h (omega arith))
      | inr ge ↦
          let e : i ≡ n + 4 = omega arith in
          rw e (get_or_push (schedule key n) x [] (n + 4) len ∙ sym (next_word-push (schedule key n) x (n + 4) (omega arith) (omega arith)))
    ]

-- words 0 to 3 are the key's
word_first : (key : List ℕ) (n i : ℕ) → i < 4
    → word_at (schedule key n) i ≡ slice_index_or (column key 0 ∷ column key 1 ∷ column key 2 ∷ column key 3 ∷ []) i []
unfolding schedule
word_first key zero i h = refl
word_first key (suc n) i h =
    get_or_append_left (schedule key n) (next_word (schedule key n) (n + 4) ∷ []) [] i (omega (arith, length-schedule key n))
    ∙ word_first key n i h

-- 16 bytes are their cells
pub cells_whole : (s : List ℕ) → length s ≡ 16 → state_of (cell s) ≡ s
cells_whole s h = pick_l_whole 0 s 16 h

-- the key of round 0 is the key itself
pub round_key_first : (key : List ℕ) → length key ≡ 16 → round_key key 0 ≡ key
unfolding round_key
round_key_first key long =
    (λ i. block_of (word_first key 40 0 (omega arith) i) (word_first key 40 1 (omega arith) i)
    (word_first key 40 2 (omega arith) i) (word_first key 40 3 (omega arith) i))
    ∙ cells_whole key long

-- the test of a number that is not 0
not_zero : {A : Type 0} (m : ℕ) (u t : A) → 0 < m → (if m == 0 then u else t) ≡ t
not_zero m u t h = grind (arith, nat_tests)

-- what `stirred` says, by i modulo 4 and i / 4
abbrev stirred_by : ℕ → ℕ → List ℕ → List ℕ
stirred_by m d t = if m == 0 then add_words (sub_word (rot_word t)) (rcon d) else t

word_step : (key : List ℕ) (n c : ℕ) → n < 10 → c < 3
    → word_at (schedule key 40) (4 * (n + 1) + (c + 1)) ≡ add_words (word_at (schedule key 40) (4 * n + (c + 1))) (word_at (schedule key 40) (4 * (n + 1) + c))
word_step key n c hn hc =
    let ws : List (List ℕ) = schedule key 40 in
    let i : ℕ = 4 * (n + 1) + (c + 1) in
    let back : i - 4 ≡ 4 * n + (c + 1) = omega arith in
    let last : i - 1 ≡ 4 * (n + 1) + c = omega arith in
    let t : List ℕ = word_at ws (i - 1) in
    word_next key 40 i (omega arith) (omega arith)
    ∙ ap (add_words (word_at ws (i - 4))) (not_zero (i % 4) (add_words (sub_word (rot_word t)) (rcon (i / 4))) t (omega arith))
    ∙ (λ j. add_words (word_at ws (back j)) (word_at ws (last j)))

word_turn : (key : List ℕ) (n : ℕ) → n < 10
    → word_at (schedule key 40) (4 * (n + 1) + 0) ≡ add_words (word_at (schedule key 40) (4 * n + 0))
    (add_words (sub_word (rot_word (word_at (schedule key 40) (4 * n + 3)))) (slice_index round_constants n ∷ 0 ∷ 0 ∷ 0 ∷ []))
word_turn key n hn =
    let ws : List (List ℕ) = schedule key 40 in
    let i : ℕ = 4 * (n + 1) + 0 in
    let m : i % 4 ≡ 0 = omega arith in
    let d : i / 4 - 1 ≡ n = omega arith in
    let back : i - 4 ≡ 4 * n + 0 = omega arith in
    let last : i - 1 ≡ 4 * n + 3 = omega arith in
    word_next key 40 i (omega arith) (omega arith)
    ∙ (λ j. add_words (word_at ws (back j)) (stirred_by (m j) (i / 4) (word_at ws (last j))))
    ∙ (λ j. add_words (word_at ws (4 * n + 0))
    (add_words (sub_word (rot_word (word_at ws (4 * n + 3)))) (slice_index round_constants (d j) ∷ 0 ∷ 0 ∷ 0 ∷ [])))

-- each round key from the one before
pub round_key_next : (key : List ℕ) (n : ℕ) → n < 10
    → round_key key (n + 1) ≡ next_round_key (round_key key n) (slice_index round_constants n)
unfolding round_key next_round_key
round_key_next key n hn =
    let ws : List (List ℕ) = schedule key 40 in
    let e0 = word_turn key n hn in
    let f1 = word_step key n 0 hn (omega arith) ∙ ap (add_words (word_at ws (4 * n + 1))) e0 in
    let f2 = word_step key n 1 hn (omega arith) ∙ ap (add_words (word_at ws (4 * n + 2))) f1 in
    let f3 = word_step key n 2 hn (omega arith) ∙ ap (add_words (word_at ws (4 * n + 3))) f2 in
    λ i. block_of (e0 i) (f1 i) (f2 i) (f3 i)
