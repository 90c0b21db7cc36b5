-- The number of a soak, parsed.
use Rattle.std.proofs.Common.{◌≡◌, ◌&&◌, ◌<◌, ◌≤◌, ◌^◌, inl, inr, ℕ, Bool, true, false, cond, List, length, Option, Some, None, Result, Ok, Err, refl, sym, ap, ◌∙◌, arith, rules}
use Rattle.std.specs.Prelude.{nat_le, nat_lt}
use Rattle.std.specs.List.{list_all}
use Rattle.std.specs.Result.{OkIff, result_ok}
use Rattle.std.specs.Str.Parse.{ParsesUnsigned, digits_value}
use Rattle.std.proofs.lemmas.Bool.{cases_lt}
use Rattle.std.proofs.lemmas.Bool.Decides.{nat_tests}
use Rattle.std.proofs.lemmas.Str.Parse.{IsDigitsTest, numerals_by_value, parse_digits}
use Rattle.script_text.specs.Words.{is_digit}
use Rattle.seed_words.specs.Numbers.{soak_number_of}

abbrev AreDigits : List ℕ → Type 0
AreDigits word = list_all is_digit word ≡ true

tells : IsDigitsTest AreDigits
tells = search rules

and_false : (a : Bool) → (a && false) ≡ false
and_false true = refl
and_false false = refl

pub both : (a b : Bool) → a ≡ true → b ≡ true → (a && b) ≡ true
both a b h k = rw (h, k)

-- the number, where these four tests are passed
abbrev if_passed : (some short digits small : Bool) → ℕ → Option ℕ
if_passed some short digits small number = cond (some && short && digits && small) (Some number) None

number-empty : (word : List ℕ) → length word ≤ 0 → None ≡ soak_number_of word
number-empty word none =
    let empty : nat_le 1 (length word) ≡ false = grind (arith, nat_tests) in
    sym (ap (λ t. if_passed t (nat_le (length word) 10) (list_all is_digit word) (nat_lt (digits_value 10 word) (2 ^ 32)) (digits_value 10 word)) empty)

number-large : (word : List ℕ) → 2 ^ 32 ≤ digits_value 10 word → None ≡ soak_number_of word
number-large word large =
    let not_small : nat_lt (digits_value 10 word) (2 ^ 32) ≡ false = grind (arith, nat_tests) in
    sym
    (ap (λ t. if_passed (nat_le 1 (length word)) (nat_le (length word) 10) (list_all is_digit word) t (digits_value 10 word)) not_small
    ∙ ap (λ t. cond t (Some (digits_value 10 word)) None) (and_false (nat_le 1 (length word) && nat_le (length word) 10 && list_all is_digit word)))

number-good : (word : List ℕ) → AreDigits word → length word ≤ 10 → 0 < length word → digits_value 10 word < 2 ^ 32 → Some (digits_value 10 word) ≡ soak_number_of word
number-good word digits le some lt =
    let filled : nat_le 1 (length word) ≡ true = grind (arith, nat_tests) in
    let short : nat_le (length word) 10 ≡ true = grind (arith, nat_tests) in
    let small : nat_lt (digits_value 10 word) (2 ^ 32) ≡ true = grind (arith, nat_tests) in
    sym (ap (λ t. cond t (Some (digits_value 10 word)) None) (both _ _ (both _ _ (both _ _ filled short) digits) small))

number-of_answer : {E : Type 0} (word : List ℕ) (r : Result ℕ E) → AreDigits word → length word ≤ 10 → OkIff r ((0 < length word) × (digits_value 10 word < 2 ^ 32)) (digits_value 10 word) → result_ok r ≡ soak_number_of word
number-of_answer word (Ok v) digits short h = ap Some h.1 ∙ number-good word digits short (h.0).0 (h.0).1
number-of_answer word (Err e) digits short h = elim (cases_lt 0 (length word)) [
  | inl some ↦ elim (cases_lt (digits_value 10 word) (2 ^ 32)) [
    | inl small ↦ absurd (h (some, small))
    | inr large ↦ number-large word large
  ]
  | inr none ↦ number-empty word none
]

-- what parsing a short word of digits answers
pub number-parsed : {E : Type 0} (word : List ℕ) (r : Result ℕ E) → list_all is_digit word ≡ true → length word ≤ 10 → ParsesUnsigned 32 10 word r → result_ok r ≡ soak_number_of word
number-parsed word r digits short parsed = number-of_answer word r digits short (parse_digits (numerals_by_value AreDigits tells) 32 word r parsed digits)
