-- The number of some digits, read one after another.
use Rattle.std.proofs.Common.{◌≡◌, ◌+◌, ◌*◌, ◌<◌, ◌≤◌, inl, inr, ℕ, List, length, take, get_or, min, sym, ap, ◌∙◌, arith}
use Rattle.std.specs.Char.{digit_value}
use Rattle.std.specs.Str.Parse.{digits_value}
use Rattle.std.proofs.Math.Nat.{mul-le-mul_right, le-mul_of_pos_right}
use Rattle.std.proofs.lemmas.Bool.{cases_lt}
use Rattle.std.proofs.lemmas.Int.Digits.{digits_value_more}

-- a number that was cut down to a limit, with one more digit behind it
min-more : (base limit number digit : ℕ) → 1 ≤ base → min (min number limit * base + digit) limit ≡ min (number * base + digit) limit
min-more base limit number digit some = elim (cases_lt number limit) [
  | inl below ↦ let same : min number limit ≡ number = omega arith in ap (λ n. min (n * base + digit) limit) same
  | inr above ↦
      let same : min number limit ≡ limit = omega arith in
      let grown : limit ≤ limit * base = le-mul_of_pos_right limit (omega arith) in
      let larger : limit * base ≤ number * base = mul-le-mul_right base above in
      ap (λ n. min (n * base + digit) limit) same ∙ omega arith
]

pub capped-step : (base limit : ℕ) (digits : List ℕ) (i value digit : ℕ) → 1 ≤ base → i < length digits → digit ≡ digit_value (get_or digits i 0) → value ≡ min (digits_value base (take i digits)) limit → min (value * base + digit) limit ≡ min (digits_value base (take (i + 1) digits)) limit
capped-step base limit digits i value digit some lt read is =
    ap (λ v. min (v * base + digit) limit) is
    ∙ min-more base limit (digits_value base (take i digits)) digit some
    ∙ ap (λ d. min (digits_value base (take i digits) * base + d) limit) read
    ∙ ap (λ n. min n limit) (sym (digits_value_more base digits i lt))
