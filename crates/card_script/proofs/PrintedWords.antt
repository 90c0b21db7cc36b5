-- What is printed of a line is words.
use Rattle.std.proofs.Common.{◌≡◌, ◌<◌, ◌≤◌, ◌+◌, ◌-◌, ◌*◌, ◌/◌, ◌%◌, ◌^◌, nat_lt, nat_le, ℕ, List, [], ◌∷◌, ◌++◌, length, get_or, slice_index, Bool, true, false, cond, if◌then◌else◌, refl, sym, ap, subst, ◌∙◌, inl, inr, lit<, lit≤, arith, length-append}
use Rattle.std.specs.Prelude.{All, codes, decimal}
use Rattle.std.specs.List.{AllByRecursion}
use Rattle.std.proofs.lemmas.Bool.{cases_lt}
use Rattle.std.proofs.lemmas.Bool.Decides.{nat_tests}
use Rattle.std.proofs.lemmas.Fmt.{decimal_by_steps}
use Rattle.std.proofs.lemmas.List.Elements.{All-get_or, All-from_get_or, All-from_recursion, recursion_from_All}
use Rattle.hex.specs.Hex.{encode_lower, encode_with, lower_digits}
use Rattle.hex.proofs.HexLemmas.{length-encode_with}
use Rattle.uuid.specs.Text.{by_index, digit_place, hex_digit, hyphen, hyphenated_text, is_hyphen_place, lower, nibble}
use Rattle.uuid.proofs.TextLemmas.{by_index_at, by_index_length, nibble_small}
use Rattle.store_model.specs.Sound.{AreBytes}
use Rattle.script_text.specs.Forms.{bytes_text, uuid_text}
use Rattle.card_script.proofs.Spaced.{IsPrinted, IsWord, printed-literal}

digits-printed : All IsPrinted lower_digits
digits-printed = All-from_recursion IsPrinted lower_digits (printed-literal lower_digits refl)

hex-printed : (bytes : List ℕ) → AllByRecursion (λ b. b < 256) bytes → AllByRecursion IsPrinted (encode_lower bytes)
unfolding encode_with
hex-printed [] are = tt
hex-printed (b ∷ bytes) are =
    let small : b < 256 = are.0 in (
      All-get_or IsPrinted lower_digits (b / 16) 0 (omega arith) digits-printed,
      (All-get_or IsPrinted lower_digits (b % 16) 0 (omega arith) digits-printed, hex-printed bytes are.1),
    )

pub hex-word : (bytes : List ℕ) → AreBytes bytes → 0 < length bytes → IsWord (encode_lower bytes)
hex-word bytes are some = record {
  some = omega (arith, length-encode_with lower_digits bytes);
  printed = hex-printed bytes (recursion_from_All (λ b. b < 256) bytes are);
}

pub bytes-word : (bytes : List ℕ) → AreBytes bytes → IsWord (bytes_text bytes)
bytes-word [] are = record { some = lit< tt; printed = ((lit≤ tt, lit< tt), tt) }
bytes-word (b ∷ bytes) are = hex-word (b ∷ bytes) are (omega arith)

digit-printed : (d : ℕ) → d < 16 → IsPrinted (hex_digit lower d)
digit-printed d lt = elim (cases_lt d 10) [
  | inl small ↦ let is : nat_lt d 10 ≡ true = grind (arith, nat_tests) in
      subst (λ t. IsPrinted (cond t (48 + d) (97 + d - 10))) (sym is) (omega arith, omega arith)
  | inr large ↦ let is : nat_lt d 10 ≡ false = grind (arith, nat_tests) in
      subst (λ t. IsPrinted (cond t (48 + d) (97 + d - 10))) (sym is) (omega arith, omega arith)
]

place-printed : (app : List ℕ) (k : ℕ) → IsPrinted (if is_hyphen_place k then hyphen else hex_digit lower (nibble app (digit_place k)))
place-printed app k = one (is_hyphen_place k)
  where
    one : (t : Bool) → IsPrinted (cond t hyphen (hex_digit lower (nibble app (digit_place k))))
    one true = (lit≤ tt, lit< tt)
    one false = digit-printed (nibble app (digit_place k)) (nibble_small app (digit_place k))

pub uuid-word : (app : List ℕ) → IsWord (uuid_text app)
unfolding uuid_text
uuid-word app =
    let at : ℕ → ℕ = λ k. if is_hyphen_place k then hyphen else hex_digit lower (nibble app (digit_place k)) in
    let long : length (hyphenated_text lower app) ≡ 36 = by_index_length 36 at in
    record {
      some = omega (arith, long);
      printed = recursion_from_All IsPrinted (hyphenated_text lower app) (All-from_get_or IsPrinted (hyphenated_text lower app) 0
          (λ i lt. subst IsPrinted (sym (by_index_at 36 at i 0 (omega (arith, long, lt)))) (place-printed app i)));
    }

printed-append : (front back : List ℕ) → AllByRecursion IsPrinted front → AllByRecursion IsPrinted back → AllByRecursion IsPrinted (front ++ back)
printed-append [] back are all = all
printed-append (b ∷ front) back are all = (are.0, printed-append front back are.1 all)

pub number-word : (n : ℕ) → n < 2 ^ 64 → IsWord (decimal n)
number-word n fits = decimal_by_steps (λ m text. IsWord text)
    (λ m lt. record { some = lit< tt; printed = ((omega arith, omega arith), tt) })
    (λ m text ten is. record {
      some = omega (arith, is.some, length-append text ((48 + m % 10) ∷ []));
      printed = printed-append text ((48 + m % 10) ∷ []) is.printed ((omega arith, omega arith), tt);
    })
    n fits
