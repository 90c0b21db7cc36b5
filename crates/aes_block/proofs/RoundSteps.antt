-- A round of the code as a round of the definition, over plain variables.
use Rattle.std.proofs.Common.{◌≡◌, ℕ, ◌+◌, ◌-◌, List, sym, ap, ◌∙◌, add-one}
use Rattle.aes_block.specs.Cipher.{add_round_key, cipher, mix_columns, rounds, shift_rows, sub_bytes}
use Rattle.aes_block.specs.InverseCipher.{inv_cipher, inv_mix_columns, inv_rounds, inv_shift_rows, inv_sub_bytes}
use Rattle.aes_block.specs.KeySchedule.{round_key}
use Rattle.aes_block.proofs.Deciphering.{rounds_next}

-- a whole round
pub round_step : (key block s a b m k out : List ℕ) (n : ℕ) → s ≡ rounds key block n → a ≡ sub_bytes s → b ≡ shift_rows a → m ≡ mix_columns b
    → out ≡ add_round_key m k → k ≡ round_key key (n + 1) → out ≡ rounds key block (n + 1)
round_step key block s a b m k out n es ea eb em eo ek =
    let e = em ∙ ap mix_columns (eb ∙ ap shift_rows (ea ∙ ap sub_bytes es)) in
    eo ∙ (λ i. add_round_key (e i) (ek i)) ∙ sym (rounds_next key block n)

-- the last round
pub last_step : (key block s a b k out : List ℕ) (n : ℕ) → s ≡ rounds key block n → n ≡ 9 → a ≡ sub_bytes s → b ≡ shift_rows a
    → out ≡ add_round_key b k → k ≡ round_key key 10 → out ≡ cipher key block
unfolding cipher
last_step key block s a b k out n es en ea eb eo ek =
    let e = eb ∙ ap shift_rows (ea ∙ ap sub_bytes (es ∙ ap (rounds key block) en)) in
    eo ∙ (λ i. add_round_key (e i) (ek i))

-- a round of the inverse cipher
inv_rounds_next : (key s : List ℕ) (n : ℕ)
    → inv_rounds key s (n + 1) ≡
    inv_mix_columns (add_round_key (inv_sub_bytes (inv_shift_rows (inv_rounds key s n))) (round_key key (9 - n)))
unfolding inv_rounds
inv_rounds_next key s n = ap (inv_rounds key s) (add-one n)

pub inv_round_step : (key block s a b m k out : List ℕ) (n : ℕ)
    → s ≡ inv_rounds key block n → a ≡ inv_shift_rows s → b ≡ inv_sub_bytes a → m ≡ add_round_key b k
    → out ≡ inv_mix_columns m → k ≡ round_key key (9 - n) → out ≡ inv_rounds key block (n + 1)
inv_round_step key block s a b m k out n es ea eb em eo ek =
    let e = eb ∙ ap inv_sub_bytes (ea ∙ ap inv_shift_rows es) in
    eo ∙ ap inv_mix_columns (em ∙ (λ i. add_round_key (e i) (ek i))) ∙ sym (inv_rounds_next key block n)

-- the last round of the inverse cipher
pub inv_last_step : (key block s a b k out : List ℕ) (n : ℕ) → s ≡ inv_rounds key block n → n ≡ 9 → a ≡ inv_shift_rows s → b ≡ inv_sub_bytes a
    → out ≡ add_round_key b k → k ≡ round_key key 0 → out ≡ inv_cipher key block
unfolding inv_cipher
inv_last_step key block s a b k out n es en ea eb eo ek =
    let e = eb ∙ ap inv_sub_bytes (ea ∙ ap inv_shift_rows (es ∙ ap (inv_rounds key block) en)) in
    eo ∙ (λ i. add_round_key (e i) (ek i))
