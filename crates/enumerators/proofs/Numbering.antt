-- Numbers that rise, each below the next one, stay so; and which numbers are not among them.
use Rattle.std.proofs.Common.{◌≡◌, ◌==◌, ◌<◌, ◌≤◌, ◌+◌, ℕ, Bool, true, false, cond, List, [], ◌∷◌, ◌++◌, Option, None, Some, IsSome, inl, inr, ap, ◌∙◌, refl, arith}
use Rattle.std.proofs.lemmas.Bool.{ne_eqb, eqb-true, cases_Bool}
use Rattle.std.specs.Map.{lookup, set_value, remove_entry}
use Rattle.enumerators.specs.declared.cursor.Cursor.{Cursor}
use Rattle.enumerators.specs.Places.{IsNumbered}
use Rattle.enumerators.specs.Enumeration.{HasStarted}

pub IsNumbered-lower : {X : Type 0} (low lower : ℕ) (entries : List (ℕ × X)) (next : ℕ) → lower ≤ low → IsNumbered low entries next → IsNumbered lower entries next
IsNumbered-lower low lower [] next le h = omega arith
IsNumbered-lower low lower (e ∷ entries) next le h = (omega (arith, h.0), h.1)

pub IsNumbered-append : {X : Type 0} (low : ℕ) (entries : List (ℕ × X)) (next : ℕ) (x : X) → IsNumbered low entries next → IsNumbered low (entries ++ (next, x) ∷ []) (next + 1)
IsNumbered-append low [] next x h = (h, omega arith)
IsNumbered-append low (e ∷ entries) next x h = (h.0, IsNumbered-append (e.0 + 1) entries next x h.1)

pub IsNumbered-set_value : {X : Type 0} (test : ℕ → Bool) (low : ℕ) (entries : List (ℕ × X)) (next : ℕ) (x : X) → IsNumbered low entries next → IsNumbered low (set_value test entries x) next
IsNumbered-set_value test low [] next x h = h
IsNumbered-set_value test low (e ∷ entries) next x h =
    elim (test e.0) as (λ b. IsNumbered low (cond b ((e.0, x) ∷ entries) (e ∷ set_value test entries x)) next) [
      | true ↦ (h.0, h.1)
      | false ↦ (h.0, IsNumbered-set_value test (e.0 + 1) entries next x h.1)
    ]

pub IsNumbered-remove_entry : {X : Type 0} (test : ℕ → Bool) (low : ℕ) (entries : List (ℕ × X)) (next : ℕ) → IsNumbered low entries next → IsNumbered low (remove_entry test entries) next
IsNumbered-remove_entry test low [] next h = h
IsNumbered-remove_entry test low (e ∷ entries) next h =
    elim (test e.0) as (λ b. IsNumbered low (cond b entries (e ∷ remove_entry test entries)) next) [
      | true ↦ IsNumbered-lower (e.0 + 1) low entries next (omega (arith, h.0)) h.1
      | false ↦ (h.0, IsNumbered-remove_entry test (e.0 + 1) entries next h.1)
    ]

-- no entry has a number below the first one's
lookup-below : {X : Type 0} (low : ℕ) (entries : List (ℕ × X)) (next number : ℕ) → number < low → IsNumbered low entries next → lookup (λ n. n == number) entries ≡ None
lookup-below low [] next number below h = refl
lookup-below low (e ∷ entries) next number below h =
    ap (λ b. cond b (Some e.1) (lookup (λ n. n == number) entries)) (ne_eqb e.0 number (omega (arith, h.0)))
    ∙ lookup-below (e.0 + 1) entries next number (omega (arith, h.0)) h.1

-- nor the next number
pub lookup-next : {X : Type 0} (low : ℕ) (entries : List (ℕ × X)) (next : ℕ) → IsNumbered low entries next → lookup (λ n. n == next) entries ≡ None
lookup-next {X} low [] next h = refl
lookup-next {X} low (e ∷ entries) next h =
    ap (λ b. cond b (Some e.1) (lookup (λ n. n == next) entries)) (ne_eqb e.0 next (omega (arith, below (e.0 + 1) entries h.1)))
    ∙ lookup-next (e.0 + 1) entries next h.1
  where
    below : (low : ℕ) (entries : List (ℕ × X)) → IsNumbered low entries next → low ≤ next
    below low [] h = h
    below low (e ∷ entries) h = omega (arith, h.0, below (e.0 + 1) entries h.1)

-- nor one that was taken away
pub lookup-removed : {X : Type 0} (low : ℕ) (entries : List (ℕ × X)) (next number : ℕ) → IsNumbered low entries next → lookup (λ n. n == number) (remove_entry (λ n. n == number) entries) ≡ None
lookup-removed low [] next number h = refl
lookup-removed low (e ∷ entries) next number h =
    elim (cases_Bool (e.0 == number)) [
      | inl is ↦
          ap (λ b. lookup (λ n. n == number) (cond b entries (e ∷ remove_entry (λ n. n == number) entries))) is
          ∙ lookup-below (e.0 + 1) entries next number (omega (arith, eqb-true e.0 number is)) h.1
      | inr not ↦
          ap (λ b. lookup (λ n. n == number) (cond b entries (e ∷ remove_entry (λ n. n == number) entries))) not
          ∙ ap (λ b. cond b (Some e.1) (lookup (λ n. n == number) (remove_entry (λ n. n == number) entries))) not
          ∙ lookup-removed (e.0 + 1) entries next number h.1
    ]

-- an enumerator that is started is live
pub IsSome-started : (cursor : Option Cursor) → HasStarted cursor → IsSome cursor
IsSome-started None h = absurd h
IsSome-started (Some cursor) h = refl
