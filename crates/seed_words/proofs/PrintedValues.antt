-- Numbers and bytes as they are printed: they are words, and are read back.
use Rattle.std.proofs.Common.{◌≡◌, ◌==◌, ◌&&◌, ◌*◌, ◌/◌, ◌%◌, ◌<◌, ◌≤◌, ◌^◌, ℕ, true, false, cond, List, [], ◌∷◌, length, drop, get_or, slice_index, Some, None, pos, refl, ap, ◌∙◌, arith, suc}
use Rattle.std.specs.Prelude.{nat_lt, nat_le, nat_eq, codes, decimal, neg_ℤ}
use Rattle.std.specs.Int.{IsInRange}
use Rattle.std.specs.Char.{digit_value}
use Rattle.std.specs.Option.{option_map}
use Rattle.std.specs.Result.{result_ok}
use Rattle.std.specs.List.{list_all}
use Rattle.std.specs.Str.Parse.{AllDigits, digits_value, starts_with_minus, without_leading_plus}
use Rattle.std.proofs.lemmas.Bool.Decides.{nat_tests}
use Rattle.std.proofs.lemmas.List.Sums.{AllPass-from_list_all}
use Rattle.std.proofs.lemmas.Fmt.{decimal_is_IsNumeral}
use Rattle.std.proofs.lemmas.Str.Parse.{digit_at}
use Rattle.hex.specs.Hex.{IsBytes, decode_of, encode_lower, encode_with, lower_digits}
use Rattle.hex.proofs.HexLemmas.{decode_of-encode_lower, length-encode_with}
use Rattle.script_text.specs.Words.{are_digits, bytes_of, id_of, number_of, numeral_of, offset_of, same_word}
use Rattle.seed_words.proofs.PrintedWords.{IsWord, is_ink}
use Rattle.seed_words.proofs.Numerals.{both}

ink_digit : (byte : ℕ) → 48 ≤ byte → byte ≤ 57 → is_ink byte ≡ true
ink_digit byte low high = grind (arith, nat_tests)

ink-digits : (digits : List ℕ) → AllDigits 10 digits → list_all is_ink digits ≡ true
ink-digits [] all = refl
ink-digits (digit ∷ digits) all =
    let one : 0 < length (digit ∷ digits) = omega arith in
    let range : IsInRange 48 57 digit = digit_at (digit ∷ digits) 0 all one in
    both (is_ink digit) (list_all is_ink digits) (ink_digit digit range.0 range.1) (ink-digits digits all.1)

are_digits-all : (digits : List ℕ) → AllDigits 10 digits → are_digits 10 digits ≡ true
are_digits-all [] all = refl
are_digits-all (digit ∷ digits) all =
    let lt : nat_lt (digit_value digit) 10 ≡ true = let h : digit_value digit < 10 = all.0 in grind (arith, nat_tests) in
    both (nat_lt (digit_value digit) 10) (are_digits 10 digits) lt (are_digits-all digits all.1)

-- a number is a word
pub IsWord-decimal : (n : ℕ) → n < 2 ^ 64 → IsWord (decimal n)
IsWord-decimal n lt =
    let numeral = (decimal_is_IsNumeral n lt).0 in
    record {
      some = let h : 0 < length (decimal n) = numeral.0 in grind (arith, nat_tests);
      ink = ink-digits (decimal n) numeral.1;
    }

numeral_of-digits : (greatest n : ℕ) (word : List ℕ) → 0 < length word → AllDigits 10 word → digits_value 10 word ≡ n → n ≤ greatest → numeral_of 10 greatest word ≡ Some n
unfolding numeral_of
numeral_of-digits greatest n word some all is le =
    let filled : nat_le 1 (length word) ≡ true = grind (arith, nat_tests) in
    let within : nat_le (digits_value 10 word) greatest ≡ true = grind (arith, nat_tests) in
    let good = both (nat_le 1 (length word) && are_digits 10 word) (nat_le (digits_value 10 word) greatest) (both (nat_le 1 (length word)) (are_digits 10 word) filled (are_digits-all word all)) within in
    ap (λ t. cond t (Some (digits_value 10 word)) None) good ∙ ap Some is

-- and is read back
pub numeral_of-decimal : (greatest n : ℕ) → n ≤ greatest → greatest < 2 ^ 64 → numeral_of 10 greatest (decimal n) ≡ Some n
numeral_of-decimal greatest n le small =
    let numeral = decimal_is_IsNumeral n (omega arith) in
    numeral_of-digits greatest n (decimal n) (numeral.0).0 (numeral.0).1 numeral.1 le

pub number_of-decimal : (n : ℕ) → n ≤ 4294967295 → number_of (decimal n) ≡ Some n
number_of-decimal n le = numeral_of-decimal 4294967295 n le (omega arith)

-- as an offset too
pub offset_of-decimal : (n : ℕ) → n ≤ 9223372036854775807 → offset_of (decimal n) ≡ Some (pos n)
unfolding offset_of
offset_of-decimal n le =
    let numeral = (decimal_is_IsNumeral n (omega arith)).0 in
    let range : IsInRange 48 57 (get_or (decimal n) 0 0) = digit_at (decimal n) 0 numeral.1 numeral.0 in
    let high : 48 ≤ get_or (decimal n) 0 0 = range.0 in
    let minus : starts_with_minus (decimal n) ≡ false = grind (arith, nat_tests) in
    let plus : (slice_index (decimal n) 0 == 43) ≡ false = grind (arith, nat_tests) in
    ap (λ t. cond t (option_map (λ k. neg_ℤ (pos k)) (numeral_of 10 9223372036854775807 (drop 1 (decimal n)))) (option_map pos (numeral_of 10 9223372036854775807 (without_leading_plus (decimal n))))) minus
    ∙ ap (λ t. option_map pos (numeral_of 10 9223372036854775807 (drop (cond t 1 0) (decimal n)))) plus
    ∙ ap (option_map pos) (numeral_of-decimal 9223372036854775807 n le (omega arith))

-- a digit of the table, looked up at its place
ink_at : (table : List ℕ) (k : ℕ) → list_all is_ink table ≡ true → k < length table → is_ink (slice_index table k) ≡ true
ink_at table k h lt = AllPass-from_list_all is_ink table h k 0 lt

ink-hex_digit : (k : ℕ) → k < 16 → is_ink (slice_index lower_digits k) ≡ true
ink-hex_digit k lt = ink_at lower_digits k refl lt

pub ink-encode : (bytes : List ℕ) → IsBytes bytes → list_all is_ink (encode_lower bytes) ≡ true
unfolding encode_with
ink-encode [] are = refl
ink-encode (byte ∷ bytes) are =
    let small : byte < 256 = are 0 in
    both (is_ink (slice_index lower_digits (byte / 16))) (is_ink (slice_index lower_digits (byte % 16)) && list_all is_ink (encode_lower bytes)) (ink-hex_digit (byte / 16) (omega arith))
    (both (is_ink (slice_index lower_digits (byte % 16))) (list_all is_ink (encode_lower bytes)) (ink-hex_digit (byte % 16) (omega arith))
    (ink-encode bytes (λ i. are (suc i))))

-- bytes in hex are a word
pub IsWord-encode_lower : (byte : ℕ) (bytes : List ℕ) → IsBytes (byte ∷ bytes) → IsWord (encode_lower (byte ∷ bytes))
unfolding encode_with
IsWord-encode_lower byte bytes are = record {
  some =
      let h : 0 < length (encode_lower (byte ∷ bytes)) = omega (arith, length-encode_with lower_digits (byte ∷ bytes)) in
      grind (arith, nat_tests);
  ink = ink-encode (byte ∷ bytes) are;
}

-- an identifier is read back
pub id_of-encode_lower : (id : List ℕ) → IsBytes id → 1 ≤ length id → length id ≤ 64 → id_of (encode_lower id) ≡ Some id
unfolding id_of
id_of-encode_lower id are low high =
    let long : length (encode_lower id) ≡ 2 * length id = length-encode_with lower_digits id in
    let least : nat_le 2 (length (encode_lower id)) ≡ true = grind (arith, nat_tests) in
    let most : nat_le (length (encode_lower id)) 128 ≡ true = grind (arith, nat_tests) in
    ap (λ t. cond t (result_ok (decode_of (encode_lower id))) None) (both _ _ least most)
    ∙ ap result_ok (decode_of-encode_lower id are)

no_dash : (a b : ℕ) (bytes : List ℕ) → same_word (a ∷ b ∷ bytes) (codes "-") ≡ false
no_dash a b bytes = elim (nat_eq a 45) as (λ t. (t && false) ≡ false) [ true ↦ refl | false ↦ refl ]

encode-no_dash : (byte : ℕ) (bytes : List ℕ) → same_word (encode_lower (byte ∷ bytes)) (codes "-") ≡ false
unfolding encode_with
encode-no_dash byte bytes = no_dash (slice_index lower_digits (byte / 16)) (slice_index lower_digits (byte % 16)) (encode_lower bytes)

-- and so are bytes
pub bytes_of-encode_lower : (byte : ℕ) (bytes : List ℕ) → IsBytes (byte ∷ bytes) → bytes_of (encode_lower (byte ∷ bytes)) ≡ Some (byte ∷ bytes)
unfolding bytes_of
bytes_of-encode_lower byte bytes are =
    let text = encode_lower (byte ∷ bytes) in
    let long : length (encode_lower (byte ∷ bytes)) ≡ 2 * suc (length bytes) = length-encode_with lower_digits (byte ∷ bytes) in
    let least : nat_le 2 (length (encode_lower (byte ∷ bytes))) ≡ true = grind (arith, nat_tests) in
    ap (λ t. cond t (Some []) (cond (nat_le 2 (length text)) (result_ok (decode_of text)) None)) (encode-no_dash byte bytes)
    ∙ ap (λ t. cond t (result_ok (decode_of text)) None) least
    ∙ ap result_ok (decode_of-encode_lower (byte ∷ bytes) are)
