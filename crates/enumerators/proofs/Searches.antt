-- What a binary search by number finds among entries whose numbers rise.
use Rattle.std.proofs.Common.{◌≡◌, ◌==◌, ◌<◌, ◌≤◌, ◌+◌, ℕ, zero, suc, List, [], ◌∷◌, length, get_or, None, Result, Ok, Err, IfOk, OnErr, inl, inr, sym, ap, ◌∙◌, arith}
use Rattle.std.specs.Map.{lookup}
use Rattle.std.specs.List.Sorted.{IsSearchInRange, IsBinarySearchResult, IsNonDecreasingBy, IsPartitionPoint}
use Rattle.std.specs.Ordering.{nat_cmp, ordering_index}
use Rattle.std.specs.declared.cmp.Ordering.TheVariants.{Less, Equal, Greater}
use Rattle.std.proofs.lemmas.Bool.{ne_eqb, cases_lt}
use Rattle.std.proofs.lemmas.Bool.Decides.{nat_tests}
use Rattle.std.proofs.lemmas.Cmp.{ranked}
use Rattle.std.proofs.lemmas.List.{get_or_default}
use Rattle.enumerators.specs.Places.{IsPlaceOf, IsNumbered, AreRising}
use Rattle.enumerators.proofs.Entries.{lookup_none, IsPlaceOf-first}

-- numbers that rise from a number on are not below it
above-low : {X : Type 0} (low : ℕ) (entries : List (ℕ × X)) (next : ℕ) → IsNumbered low entries next → (j : ℕ) (d : ℕ × X) → j < length entries → low ≤ (get_or entries j d).0
above-low low [] next h j d lt = absurd (omega arith)
above-low low (e ∷ entries) next h zero d lt = h.0
above-low low (e ∷ entries) next h (suc j) d lt = omega (arith, h.0, above-low (e.0 + 1) entries next h.1 j d (omega arith))

pub AreRising-numbered : {X : Type 0} (low : ℕ) (entries : List (ℕ × X)) (next : ℕ) → IsNumbered low entries next → AreRising entries
AreRising-numbered low [] next h i j d before within = absurd (omega arith)
AreRising-numbered low (e ∷ entries) next h i zero d before within = absurd (omega arith)
AreRising-numbered low (e ∷ entries) next h zero (suc j) d before within = omega (arith, above-low (e.0 + 1) entries next h.1 j d (omega arith))
AreRising-numbered low (e ∷ entries) next h (suc i) (suc j) d before within = AreRising-numbered (e.0 + 1) entries next h.1 i j d (omega arith) (omega arith)

-- the comparisons with a number rise along the entries, as a binary search asks
comparisons_rise : {X : Type 0} (number : ℕ) (entries : List (ℕ × X)) → AreRising entries → IsNonDecreasingBy (λ e. ordering_index (nat_cmp e.0 number)) entries
comparisons_rise number entries rising i j d le within =
    let numbers_rise : (get_or entries i d).0 ≤ (get_or entries j d).0 =
    grind (arith, rising i j d, λ (same : i ≡ j). ap (λ k. (get_or entries k d).0) same) in
    grind (arith, nat_tests)

-- the entry of the number is the first one
at_place : {X : Type 0} (number : ℕ) (entries : List (ℕ × X)) (at : ℕ) (x : ℕ × X) → AreRising entries → at < length entries → x ≡ get_or entries at x → x.0 ≡ number → IsPlaceOf number entries at
at_place number entries at x rising within is same =
    IsPlaceOf-first number entries at x within is same (λ k before d.
    let here : (get_or entries at d).0 ≡ number = ap (λ e. e.0) (get_or_default entries at d x within ∙ sym is) ∙ same in
    ne_eqb _ _ (λ equal. omega (arith, rising k at d before within, equal, here)))

found : {X : Type 0} (number : ℕ) (entries : List (ℕ × X)) (at : ℕ) → AreRising entries → at < length entries → ((d : ℕ × X) → nat_cmp (get_or entries at d).0 number ≡ Equal) → IsPlaceOf number entries at
found number [] at rising within equal = absurd (omega arith)
found number (e ∷ entries) at rising within equal =
    let x = get_or (e ∷ entries) at e in
    at_place number (e ∷ entries) at x rising within (get_or_default (e ∷ entries) at e x within) (ranked x.0 number Equal (sym (equal e)))

missed : {X : Type 0} (number : ℕ) (entries : List (ℕ × X)) (at : ℕ) → IsPartitionPoint (λ e. nat_cmp e.0 number ≡ Less) (λ e. nat_cmp e.0 number ≡ Greater) entries at → lookup (λ n. n == number) entries ≡ None
missed number entries at parted = lookup_none number entries (λ k within d. elim (cases_lt k at) [
  | inl before ↦ ne_eqb _ _ (λ equal. omega (arith, equal, ranked (get_or entries k d).0 number Less (sym (parted.0 k d (omega arith) before))))
  | inr behind ↦ ne_eqb _ _ (λ equal. omega (arith, equal, ranked (get_or entries k d).0 number Greater (sym (parted.1 k d behind within))))
])

-- what a search answers
pub record Searched {X : Type 0} (number : ℕ) (entries : List (ℕ × X)) (answer : Result ℕ ℕ) : Type 0 where
  pub place : IfOk answer (IsPlaceOf number entries)
  pub none : OnErr answer (lookup (λ n. n == number) entries ≡ None)

pub searched : {X : Type 0} (number : ℕ) (entries : List (ℕ × X)) → AreRising entries → (answer : Result ℕ ℕ)
    → IsSearchInRange answer (length entries) → IsBinarySearchResult (λ e. nat_cmp e.0 number) entries answer → Searched number entries answer
searched number entries rising (Ok at) within equal = record { place = found number entries at rising within equal; none = tt }
searched number entries rising (Err at) within parted = record { place = tt; none = missed number entries at (parted (comparisons_rise number entries rising)) }
