-- Printed words stand for what was printed.
use Rattle.std.proofs.Common.{◌≡◌, ◌<◌, ◌≤◌, ◌+◌, ◌*◌, ◌^◌, ◌&&◌, nat_lt, nat_le, nat_eq, ℕ, List, [], ◌∷◌, length, slice_index, get_or, Bool, true, false, cond, if◌then◌else◌, Option, Some, None, Ok, refl, sym, ap, subst, ◌∙◌, inl, inr, lit<, arith}
use Rattle.std.specs.Prelude.{All, codes, decimal}
use Rattle.std.specs.Char.{digit_value}
use Rattle.std.specs.Cmp.Lexicographic.{unequal}
use Rattle.std.specs.List.{list_all}
use Rattle.std.specs.Result.{result_ok}
use Rattle.std.specs.Str.Parse.{AllDigits, digits_value}
use Rattle.std.proofs.lemmas.Bool.{cases_lt}
use Rattle.std.proofs.lemmas.Bool.Decides.{nat_tests}
use Rattle.std.proofs.lemmas.Fmt.{decimal_is_IsNumeral}
use Rattle.std.proofs.lemmas.List.{get_or_past}
use Rattle.std.proofs.lemmas.List.Elements.{All-get_or}
use Rattle.hex.specs.Hex.{IsBytes, decode_of, encode_lower, encode_with, lower_digits}
use Rattle.hex.proofs.HexLemmas.{decode_of-encode_lower, length-encode_with}
use Rattle.uuid.specs.Text.{lower}
use Rattle.uuid.proofs.RoundTrips.{parses_hyphenated}
use Rattle.tee_types.specs.Identifier.{IsIdentifier}
use Rattle.store_model.specs.Sound.{AreBytes}
use Rattle.script_text.specs.Words.{are_digits, bytes_of, id_of, numeral_of, number_of, same_word, uuid_of}
use Rattle.script_text.specs.Forms.{bytes_text, uuid_text}

pub uuid_of-text : (app : List ℕ) → length app ≡ 16 → AreBytes app → uuid_of (uuid_text app) ≡ Some app
unfolding uuid_text
uuid_of-text app long are = sym (parses_hyphenated lower app (inl refl) long are)

is_bytes : (bytes : List ℕ) → AreBytes bytes → IsBytes bytes
is_bytes bytes are i = elim (cases_lt i (length bytes)) [
  | inl lt ↦ All-get_or (λ b. b < 256) bytes i 0 lt are
  | inr ge ↦ subst (λ b. b < 256) (sym (get_or_past bytes i 0 ge)) (lit< tt)
]

decoded : (bytes : List ℕ) → AreBytes bytes → result_ok (decode_of (encode_lower bytes)) ≡ Some bytes
decoded bytes are = ap result_ok (decode_of-encode_lower bytes (is_bytes bytes are))

pub id_of-text : (id : List ℕ) → IsIdentifier id → AreBytes id → id_of (encode_lower id) ≡ Some id
unfolding id_of
id_of-text id fits are =
    let word = encode_lower id in
    let long : length word ≡ 2 * length id = length-encode_with lower_digits id in
    let low : 1 ≤ length id = fits.0 in
    let high : length id ≤ 64 = fits.1 in
    let two : nat_le 2 (length word) ≡ true = grind (arith, nat_tests) in
    let most : nat_le (length word) 128 ≡ true = grind (arith, nat_tests) in
    ap (λ t. cond (t && nat_le (length word) 128) (result_ok (decode_of word)) None) two
    ∙ ap (λ t. cond t (result_ok (decode_of word)) None) most
    ∙ decoded id are

no_dash : (word : List ℕ) → 2 ≤ length word → same_word word (codes "-") ≡ false
no_dash word two = unequal nat_eq word (codes "-") (λ same. absurd (omega (arith, two, same)))

pub bytes_of-text : (bytes : List ℕ) → AreBytes bytes → bytes_of (bytes_text bytes) ≡ Some bytes
unfolding bytes_of
bytes_of-text [] are = refl
bytes_of-text (b ∷ bytes) are = some (b ∷ bytes) (omega arith) are
  where
    some : (bytes : List ℕ) → 1 ≤ length bytes → AreBytes bytes
        → (if same_word (encode_lower bytes) (codes "-") then Some [] else if nat_le 2 (length (encode_lower bytes)) then result_ok (decode_of (encode_lower bytes)) else None) ≡ Some bytes
    some bytes low are =
        let word = encode_lower bytes in
        let long : length word ≡ 2 * length bytes = length-encode_with lower_digits bytes in
        let two : nat_le 2 (length word) ≡ true = grind (arith, nat_tests) in
        ap (λ t. cond t (Some []) (cond (nat_le 2 (length word)) (result_ok (decode_of word)) None)) (no_dash word (omega arith))
        ∙ ap (λ t. cond t (result_ok (decode_of word)) None) two
        ∙ decoded bytes are

all_digits : (text : List ℕ) → AllDigits 10 text → are_digits 10 text ≡ true
all_digits [] are = refl
all_digits (c ∷ text) are =
    let small : nat_lt (digit_value c) 10 ≡ true = let lt : digit_value c < 10 = are.0 in grind (arith, nat_tests) in
    ap (λ t. t && are_digits 10 text) small ∙ all_digits text are.1

pub number_of-text : (n : ℕ) → n < 2 ^ 32 → number_of (decimal n) ≡ Some n
unfolding numeral_of
number_of-text n fits =
    let word = decimal n in
    let is = decimal_is_IsNumeral n (omega arith) in
    let some : 0 < length word = (is.0).0 in
    let low : nat_le 1 (length word) ≡ true = grind (arith, nat_tests) in
    let within : nat_le n 4294967295 ≡ true = grind (arith, nat_tests) in
    ap (λ t. cond (t && are_digits 10 word && nat_le (digits_value 10 word) 4294967295) (Some (digits_value 10 word)) None) low
    ∙ ap (λ t. cond (t && nat_le (digits_value 10 word) 4294967295) (Some (digits_value 10 word)) None) (all_digits word (is.0).1)
    ∙ ap (λ v. cond (nat_le v 4294967295) (Some v) None) is.1
    ∙ ap (λ t. cond t (Some n) None) within
