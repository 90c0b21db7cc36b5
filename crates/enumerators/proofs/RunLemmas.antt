-- The numbers that a run gives count up, and those that are gone stay so.
use Rattle.std.proofs.Common.{◌≡◌, ◌==◌, ◌<◌, ◌+◌, ℕ, zero, suc, Bool, true, false, cond, List, [], ◌∷◌, ◌++◌, length, slice_index, Option, None, Some, refl, ap, ◌∙◌, arith}
use Rattle.std.proofs.lemmas.Bool.{ne_eqb}
use Rattle.std.specs.Map.{lookup, set_value, remove_entry}
use Rattle.enumerators.specs.declared.cursor.Cursor.{Cursor}
use Rattle.enumerators.specs.declared.cursor.Cursor.TheVariants.{Idle, First, After}
use Rattle.enumerators.specs.Enumeration.{EnumeratorTable, has_all, cursor_at, allocated}
use Rattle.enumerators.specs.Runs.{Request, Allocate, Start, Reset, Free, Advance, after, after_all, numbers_given}

-- these numbers count up from the first
abbrev pub CountUp : ℕ → List ℕ → Type 0
CountUp first numbers = (k : ℕ) → k < length numbers → slice_index numbers k ≡ first + k

CountUp-cons : (first : ℕ) (numbers : List ℕ) → CountUp (first + 1) numbers → CountUp first (first ∷ numbers)
CountUp-cons first numbers count zero lt = omega arith
CountUp-cons first numbers count (suc k) lt = omega (arith, count k (omega arith))

-- the numbers of a run count up from the next one
pub CountUp-numbers_given : (table : EnumeratorTable) (requests : List Request) → CountUp table.next (numbers_given table requests)
CountUp-numbers_given table [] = λ k lt. absurd (omega arith)
CountUp-numbers_given table (Start number ∷ requests) = CountUp-numbers_given (after table (Start number)) requests
CountUp-numbers_given table (Reset number ∷ requests) = CountUp-numbers_given (after table (Reset number)) requests
CountUp-numbers_given table (Free number ∷ requests) = CountUp-numbers_given (after table (Free number)) requests
CountUp-numbers_given table (Advance number id ∷ requests) = CountUp-numbers_given (after table (Advance number id)) requests
CountUp-numbers_given table (Allocate ∷ requests) =
    let numbers : Bool → List ℕ = λ full. numbers_given (cond full table (allocated table)) requests in
    elim (has_all table) as (λ full. CountUp table.next (cond full (numbers full) (table.next ∷ numbers full))) [
      | true ↦ CountUp-numbers_given table requests
      | false ↦ CountUp-cons table.next (numbers false) (CountUp-numbers_given (allocated table) requests)
    ]

-- where nothing is found, the first entry has another number
none_first : {X : Type 0} (here : Bool) (x : X) (later : Option X) → cond here (Some x) later ≡ None → (here ≡ false) × (later ≡ None)
none_first true x later none = absurd (cc)
none_first false x later none = (refl, none)

module _ (number : ℕ) where
  abbrev found : List (ℕ × Cursor) → Option Cursor
  found live = lookup (λ n. n == number) live

  lookup-set_value : (other : ℕ) (live : List (ℕ × Cursor)) (cursor : Cursor) → found live ≡ None → found (set_value (λ n. n == other) live cursor) ≡ None
  lookup-set_value other [] cursor none = refl
  lookup-set_value other (e ∷ live) cursor none =
      let first = none_first (e.0 == number) e.1 (found live) none in
      let rest = set_value (λ n. n == other) live cursor in
      elim (e.0 == other) as (λ here. found (cond here ((e.0, cursor) ∷ live) (e ∷ rest)) ≡ None) [
        | true ↦ ap (λ b. cond b (Some cursor) (found live)) first.0 ∙ first.1
        | false ↦ ap (λ b. cond b (Some e.1) (found rest)) first.0 ∙ lookup-set_value other live cursor first.1
      ]

  lookup-remove_entry : (other : ℕ) (live : List (ℕ × Cursor)) → found live ≡ None → found (remove_entry (λ n. n == other) live) ≡ None
  lookup-remove_entry other [] none = refl
  lookup-remove_entry other (e ∷ live) none =
      let first = none_first (e.0 == number) e.1 (found live) none in
      let rest = remove_entry (λ n. n == other) live in
      elim (e.0 == other) as (λ here. found (cond here live (e ∷ rest)) ≡ None) [
        | true ↦ first.1
        | false ↦ ap (λ b. cond b (Some e.1) (found rest)) first.0 ∙ lookup-remove_entry other live first.1
      ]

  lookup-append : (live : List (ℕ × Cursor)) (next : ℕ) (cursor : Cursor) → number < next → found live ≡ None → found (live ++ (next, cursor) ∷ []) ≡ None
  lookup-append [] next cursor below none = ap (λ b. cond b (Some cursor) None) (ne_eqb next number (omega arith))
  lookup-append (e ∷ live) next cursor below none =
      let first = none_first (e.0 == number) e.1 (found live) none in
      ap (λ b. cond b (Some e.1) (found (live ++ (next, cursor) ∷ []))) first.0 ∙ lookup-append live next cursor below first.1

  -- a number that was given and is not live is not live after a run
  pub cursor_at-after_all : (table : EnumeratorTable) (requests : List Request) → number < table.next → cursor_at table number ≡ None → cursor_at (after_all table requests) number ≡ None
  cursor_at-after_all table [] below none = none
  cursor_at-after_all table (Start other ∷ requests) below none =
      cursor_at-after_all (after table (Start other)) requests below (lookup-set_value other table.live First none)
  cursor_at-after_all table (Reset other ∷ requests) below none =
      cursor_at-after_all (after table (Reset other)) requests below (lookup-set_value other table.live Idle none)
  cursor_at-after_all table (Free other ∷ requests) below none =
      cursor_at-after_all (after table (Free other)) requests below (lookup-remove_entry other table.live none)
  cursor_at-after_all table (Advance other id ∷ requests) below none =
      cursor_at-after_all (after table (Advance other id)) requests below (lookup-set_value other table.live (After id) none)
  cursor_at-after_all table (Allocate ∷ requests) below none =
      elim (has_all table) as (λ full. cursor_at (after_all (cond full table (allocated table)) requests) number ≡ None) [
        | true ↦ cursor_at-after_all table requests below none
        | false ↦ cursor_at-after_all (allocated table) requests (omega arith) (lookup-append table.live table.next Idle below none)
      ]
