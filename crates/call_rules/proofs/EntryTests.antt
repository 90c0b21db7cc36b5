-- Tests of all entries of a list whose numbers rise, by what look-ups find; and the first entry that passes.
use Rattle.std.proofs.Common.{◌≡◌, ◌≤◌, ◌+◌, ℕ, Bool, true, false, true≢false, cond, ◌&&◌, ◌||◌, List, [], ◌∷◌, Some, None, find, inl, inr, refl, sym, ap, ◌∙◌, subst, arith}
use Rattle.std.proofs.lemmas.Bool.{cases_Bool, cases_eq}
use Rattle.std.specs.List.{list_any, list_all}
use Rattle.enumerators.specs.Places.{IsNumbered}
use Rattle.call_rules.proofs.EntryLists.{at-here, at-later, at_number}

module _ {X : Type 0} where
  -- a number that is found is not below the least
  pub number-least : (entries : List (ℕ × X)) (low next q : ℕ) (y : X) → IsNumbered low entries next → at_number entries q ≡ Some y → low ≤ q
  number-least [] low next q y numbered is = absurd (cc (is))
  number-least (e ∷ entries) low next q y numbered is = elim (cases_eq e.0 q) [
    | inl same ↦ omega (arith, same, numbered.0)
    | inr other ↦ omega (arith, numbered.0, number-least entries (e.0 + 1) next q y numbered.1 (sym (at-later e (at_number entries q) q other) ∙ is))
  ]

  -- what is found behind the first entry is found
  pub found-later : (e : ℕ × X) (entries : List (ℕ × X)) (next q : ℕ) (y : X) → IsNumbered (e.0 + 1) entries next → at_number entries q ≡ Some y → at_number (e ∷ entries) q ≡ Some y
  found-later e entries next q y numbered is =
      let above : e.0 + 1 ≤ q = number-least entries (e.0 + 1) next q y numbered is in
      at-later e (at_number entries q) q (λ same. absurd (omega (arith, above, same))) ∙ is

  pub all-from : (p : X → Bool) (entries : List (ℕ × X)) (low next : ℕ) → IsNumbered low entries next → ((q : ℕ) (y : X) → at_number entries q ≡ Some y → p y ≡ true)
      → list_all (λ (e : ℕ × X). p e.1) entries ≡ true
  all-from p [] low next numbered passes = refl
  all-from p (e ∷ entries) low next numbered passes =
      (λ k. passes e.0 e.1 (at-here e (at_number entries e.0) e.0 refl) k && list_all (λ (e : ℕ × X). p e.1) entries)
      ∙ all-from p entries (e.0 + 1) next numbered.1 (λ q y is. passes q y (found-later e entries next q y numbered.1 is))

  pub record Passes (p : X → Bool) (entries : List (ℕ × X)) : Type 0 where
    pub number : ℕ
    pub value : X
    pub at : at_number entries number ≡ Some value
    pub passes : p value ≡ true

  pub any-found : (p : X → Bool) (entries : List (ℕ × X)) (low next : ℕ) → IsNumbered low entries next → list_any (λ (e : ℕ × X). p e.1) entries ≡ true → Passes p entries
  any-found p [] low next numbered any = absurd (true≢false (sym any))
  any-found p (e ∷ entries) low next numbered any = elim (cases_Bool (p e.1)) [
    | inl here ↦ record { number = e.0; value = e.1; at = at-here e (at_number entries e.0) e.0 refl; passes = here }
    | inr other ↦
        let later = any-found p entries (e.0 + 1) next numbered.1 (sym (ap (λ (b : Bool). b || list_any (λ (e : ℕ × X). p e.1) entries) other) ∙ any) in
        record { number = later.number; value = later.value; at = found-later e entries next later.number later.value numbered.1 later.at; passes = later.passes }
  ]

  -- the first entry that passes, and where there is none
  pub find-found : (test : ℕ × X → Bool) (entries : List (ℕ × X)) (low next : ℕ) (e : ℕ × X) → IsNumbered low entries next → find test entries ≡ Some e
      → (at_number entries e.0 ≡ Some e.1) × (test e ≡ true)
  find-found test [] low next e numbered found = absurd (cc (found))
  find-found test (x ∷ entries) low next e numbered found = (elim (test x) as (λ b. test x ≡ b → cond b (Some x) (find test entries) ≡ Some e → (at_number (x ∷ entries) e.0 ≡ Some e.1) × (test e ≡ true)) [
    | true ↦ λ passes here. (let same : x ≡ e = cc (here) in subst (λ (y : ℕ × X). (at_number (x ∷ entries) y.0 ≡ Some y.1) × (test y ≡ true)) same (at-here x (at_number entries x.0) x.0 refl, passes))
    | false ↦ λ _ there.
        let later = find-found test entries (x.0 + 1) next e numbered.1 there in
        (found-later x entries next e.0 e.1 numbered.1 later.0, later.1)
  ]) refl found

  pub find-none : (test : ℕ × X → Bool) (entries : List (ℕ × X)) (q : ℕ) (y : X) → find test entries ≡ None → at_number entries q ≡ Some y → test (q, y) ≡ false
  find-none test [] q y none is = absurd (cc (is))
  find-none test (x ∷ entries) q y none is = (elim (test x) as (λ b. test x ≡ b → cond b (Some x) (find test entries) ≡ None → test (q, y) ≡ false) [
    | true ↦ λ _ here. absurd (cc (here))
    | false ↦ λ fails there. elim (cases_eq x.0 q) [
      | inl same ↦
          let value : x.1 ≡ y = (let both : Some x.1 ≡ Some y = sym (at-here x (at_number entries q) q same) ∙ is in cc (both)) in
          (λ k. test (sym same k, sym value k)) ∙ fails
      | inr other ↦ find-none test entries q y there (sym (at-later x (at_number entries q) q other) ∙ is)
    ]
  ]) refl none
