-- How long the text of a soak is.
use Rattle.std.proofs.Common.{◌≡◌, ◌==◌, ◌+◌, ◌*◌, ◌%◌, ◌<◌, ◌≤◌, ◌^◌, ℕ, true, false, cond, List, [], ◌∷◌, ◌++◌, length, refl, ap, length-append, arith}
use Rattle.std.specs.Prelude.{decimal}
use Rattle.std.specs.List.{flat_map}
use Rattle.std.proofs.lemmas.Fmt.{length-decimal-le}
use Rattle.hex.specs.Hex.{lower_digits}
use Rattle.hex.proofs.HexLemmas.{length-encode_with}
use Rattle.tee_types.specs.declared.call.Call.{Call}
use Rattle.tee_types.specs.declared.call.Call.TheVariants.{Rename, Read, Delete, Close}
use Rattle.script_text.specs.Forms.{bytes_text, call_text, flags_text}
use Rattle.seed_words.specs.declared.soak_words.RoundWords.{RoundWords}
use Rattle.seed_words.specs.Joined.{joined}
use Rattle.seed_words.specs.SoakWords.{words_of_round}
use Rattle.seed_words.specs.Rounds.{all_rights, create_of, fourth_of, id_of_round, last_of, rising, round_calls, seek_of, write_of}
use Rattle.seed_words.specs.Scripts.{app_calls}
use Rattle.seed_words.specs.Texts.{app_text, declaration_line, line_of_call, soak_text}
use Rattle.seed_words.proofs.Joins.{flat_map-joined, length-joined}
use Rattle.seed_words.proofs.PrintedRounds.{length-rising}

length-number : (n : ℕ) → n < 2 ^ 32 → length (decimal n) ≤ 10
length-number n lt = length-decimal-le 10 n (omega arith) (omega arith) (omega arith)

length-bytes_text : (bytes : List ℕ) → length (bytes_text bytes) ≤ 1 + 2 * length bytes
length-bytes_text [] = omega arith
length-bytes_text (byte ∷ bytes) = omega (arith, length-encode_with lower_digits (byte ∷ bytes))

length-all_rights : length (flags_text all_rights) ≡ 4
unfolding flags_text
length-all_rights = refl

-- the line of a call: a name, a space and an LF more
length-line : (app : ℕ) (call : Call) (most : ℕ) → app < 8 → length (call_text call) ≤ most → length (line_of_call app call) ≤ most + 13
unfolding line_of_call
length-line app call most lt le =
    simp length-append (omega (arith, length-number app (omega arith)))

length-create : (w : RoundWords) (i : ℕ) → length (call_text (create_of w i)) ≤ 8220
unfolding call_text
length-create w i =
    simp length-append (omega (arith, length-encode_with lower_digits (id_of_round i), length-all_rights, length-bytes_text (rising w.first (1 + w.created % 4096)), length-rising w.first (1 + w.created % 4096)))

length-seek : (w : RoundWords) (i : ℕ) → i < 100 → length (call_text (seek_of w i)) ≤ 40
unfolding call_text
length-seek w i lt = simp length-append (omega (arith, length-number i (omega arith), length-number (w.offset % 16384) (omega arith)))

length-write : (w : RoundWords) (i : ℕ) → i < 100 → length (call_text (write_of w i)) ≤ 2080
unfolding call_text
length-write w i lt =
    simp length-append (omega (arith, length-number i (omega arith), length-bytes_text (rising (w.first + 128) (1 + w.written % 1024)), length-rising (w.first + 128) (1 + w.written % 1024)))

length-fourth : (i : ℕ) → i < 100 → length (call_text (fourth_of i)) ≤ 40
unfolding call_text
length-fourth i lt = elim (i % 5 == 4) as (λ t. length (call_text (cond t (Rename i (id_of_round i)) (Read i 4096))) ≤ 40) [
  | true ↦ simp length-append (omega (arith, length-number i (omega arith), length-encode_with lower_digits (id_of_round i)))
  | false ↦ simp length-append (omega (arith, length-number i (omega arith), length-number 4096 (omega arith)))
]

length-last : (i : ℕ) → i < 100 → length (call_text (last_of i)) ≤ 40
unfolding call_text
length-last i lt = elim (i % 4 == 3) as (λ t. length (call_text (cond t (Delete i) (Close i))) ≤ 40) [
  | true ↦ simp length-append (omega (arith, length-number i (omega arith)))
  | false ↦ simp length-append (omega (arith, length-number i (omega arith)))
]

length-five : (a b c d e : List ℕ) → length (a ++ (b ++ (c ++ (d ++ (e ++ []))))) ≡ length a + (length b + (length c + (length d + length e)))
length-five a b c d e = simp length-append (omega arith)

length-round : (app i : ℕ) (w : RoundWords) → app < 8 → i < 100 → length (flat_map (line_of_call app) (round_calls w i)) ≤ 11000
unfolding round_calls
length-round app i w small lt =
    omega (
      arith,
      length-five (line_of_call app (create_of w i)) (line_of_call app (seek_of w i)) (line_of_call app (write_of w i)) (line_of_call app (fourth_of i)) (line_of_call app (last_of i)),
      length-line app (create_of w i) 8220 small (length-create w i),
      length-line app (seek_of w i) 40 small (length-seek w i lt),
      length-line app (write_of w i) 2080 small (length-write w i lt),
      length-line app (fourth_of i) 40 small (length-fourth i lt),
      length-line app (last_of i) 40 small (length-last i lt),
    )

length-app_text : (number app : ℕ) → app < 8 → length (app_text number app) ≤ 1100000
unfolding app_calls
length-app_text number app small =
    let calls = λ (i : ℕ). round_calls (words_of_round number app i) i in
    let le : length (joined (λ i. flat_map (line_of_call app) (calls i)) 100) ≤ 100 * 11000 = length-joined (λ i. flat_map (line_of_call app) (calls i)) 11000 100 (λ i lt. length-round app i (words_of_round number app i) small lt) in
    omega (arith, le, ap length (flat_map-joined (line_of_call app) calls 100))

length-declaration_line : (app : ℕ) → app < 8 → length (declaration_line app) ≤ 80
length-declaration_line app small = simp length-append (omega (arith, length-number app (omega arith), length-number (app + 1) (omega arith)))

pub length-soak_text : (number : ℕ) → length (soak_text number) ≤ 16777216
length-soak_text number =
    let apps : length (joined declaration_line 8) ≤ 8 * 80 = length-joined declaration_line 80 8 length-declaration_line in
    let calls : length (joined (app_text number) 8) ≤ 8 * 1100000 = length-joined (app_text number) 1100000 8 (length-app_text number) in
    simp length-append (omega (arith, apps, calls))
