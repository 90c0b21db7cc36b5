-- Lists of entries by number: what a look-up finds after a change, a removal and an addition, and tests of every entry.
use Rattle.std.proofs.Common.{◌≡◌, ◌≢◌, ◌==◌, ◌⊎◌, ℕ, Bool, true, false, cond, ◌||◌, List, [], ◌∷◌, ◌++◌, Option, Some, None, inl, inr, refl, sym, ap, ◌∙◌, eq-eqb, ne_eqb}
use Rattle.std.proofs.lemmas.Bool.{cases_eq, and_parts}
use Rattle.std.specs.List.{list_any, list_all}
use Rattle.std.specs.Map.{lookup, set_value, remove_entry}
use Rattle.enumerators.specs.Places.{IsNumbered}
use Rattle.enumerators.proofs.Numbering.{lookup-removed}

module _ {X : Type 0} where
  abbrev pub at_number : List (ℕ × X) → ℕ → Option X
  at_number entries q = lookup (λ n. n == q) entries

  abbrev pub put_at : List (ℕ × X) → ℕ → X → List (ℕ × X)
  put_at entries m x = set_value (λ n. n == m) entries x

  abbrev pub taken_at : List (ℕ × X) → ℕ → List (ℕ × X)
  taken_at entries m = remove_entry (λ n. n == m) entries

  -- the first entry is that of the number, or another
  pub at-here : (e : ℕ × X) (rest : Option X) (q : ℕ) → e.0 ≡ q → cond (e.0 == q) (Some e.1) rest ≡ Some e.1
  at-here e rest q same = ap (λ (b : Bool). cond b (Some e.1) rest) (eq-eqb e.0 q same)

  pub at-later : (e : ℕ × X) (rest : Option X) (q : ℕ) → e.0 ≢ q → cond (e.0 == q) (Some e.1) rest ≡ rest
  at-later e rest q apart = ap (λ (b : Bool). cond b (Some e.1) rest) (ne_eqb e.0 q apart)

  pub put-other : (entries : List (ℕ × X)) (m : ℕ) (x : X) (q : ℕ) → q ≢ m → at_number (put_at entries m x) q ≡ at_number entries q
  put-other [] m x q apart = refl
  put-other (e ∷ entries) m x q apart = elim (cases_eq e.0 m) [
    | inl same ↦
        ap (λ (b : Bool). at_number (cond b ((e.0, x) ∷ entries) (e ∷ put_at entries m x)) q) (eq-eqb e.0 m same)
        ∙ at-later (e.0, x) (at_number entries q) q (λ is. apart (sym is ∙ same))
        ∙ sym (at-later e (at_number entries q) q (λ is. apart (sym is ∙ same)))
    | inr other ↦
        ap (λ (b : Bool). at_number (cond b ((e.0, x) ∷ entries) (e ∷ put_at entries m x)) q) (ne_eqb e.0 m other)
        ∙ ap (λ (o : Option X). cond (e.0 == q) (Some e.1) o) (put-other entries m x q apart)
  ]

  pub put-here : (entries : List (ℕ × X)) (m : ℕ) (x y : X) → at_number entries m ≡ Some y → at_number (put_at entries m x) m ≡ Some x
  put-here [] m x y is = absurd (cc (is))
  put-here (e ∷ entries) m x y is = elim (cases_eq e.0 m) [
    | inl same ↦
        ap (λ (b : Bool). at_number (cond b ((e.0, x) ∷ entries) (e ∷ put_at entries m x)) m) (eq-eqb e.0 m same)
        ∙ at-here (e.0, x) (at_number entries m) m same
    | inr other ↦
        ap (λ (b : Bool). at_number (cond b ((e.0, x) ∷ entries) (e ∷ put_at entries m x)) m) (ne_eqb e.0 m other)
        ∙ at-later e (at_number (put_at entries m x) m) m other
        ∙ put-here entries m x y (sym (at-later e (at_number entries m) m other) ∙ is)
  ]

  pub put-found : (entries : List (ℕ × X)) (m : ℕ) (x y z : X) (q : ℕ) → at_number entries m ≡ Some z → at_number (put_at entries m x) q ≡ Some y
      → ((q ≡ m) × (y ≡ x)) ⊎ ((q ≢ m) × (at_number entries q ≡ Some y))
  put-found entries m x y z q held is = elim (cases_eq q m) [
    | inl same ↦
        let both : Some x ≡ Some y = sym (put-here entries m x z held) ∙ ap (at_number (put_at entries m x)) (sym same) ∙ is in
        inl (same, (let value : x ≡ y = cc (both) in sym value))
    | inr other ↦ inr (other, sym (put-other entries m x q other) ∙ is)
  ]

  pub taken-other : (entries : List (ℕ × X)) (m q : ℕ) → q ≢ m → at_number (taken_at entries m) q ≡ at_number entries q
  taken-other [] m q apart = refl
  taken-other (e ∷ entries) m q apart = elim (cases_eq e.0 m) [
    | inl same ↦
        ap (λ (b : Bool). at_number (cond b entries (e ∷ taken_at entries m)) q) (eq-eqb e.0 m same)
        ∙ sym (at-later e (at_number entries q) q (λ is. apart (sym is ∙ same)))
    | inr other ↦
        ap (λ (b : Bool). at_number (cond b entries (e ∷ taken_at entries m)) q) (ne_eqb e.0 m other)
        ∙ ap (λ (o : Option X). cond (e.0 == q) (Some e.1) o) (taken-other entries m q apart)
  ]

  -- where the numbers rise, what was taken away is gone
  pub taken-found : (entries : List (ℕ × X)) (next m q : ℕ) (y : X) → IsNumbered 0 entries next → at_number (taken_at entries m) q ≡ Some y → (q ≢ m) × (at_number entries q ≡ Some y)
  taken-found entries next m q y numbered is = elim (cases_eq q m) [
    | inl same ↦
        let gone : at_number (taken_at entries m) q ≡ None = ap (at_number (taken_at entries m)) same ∙ lookup-removed 0 entries next m numbered in
        absurd (cc (sym gone ∙ is))
    | inr other ↦ (other, sym (taken-other entries m q other) ∙ is)
  ]

  pub added-old : (entries : List (ℕ × X)) (m : ℕ) (x y : X) (q : ℕ) → at_number entries q ≡ Some y → at_number (entries ++ (m, x) ∷ []) q ≡ Some y
  added-old [] m x y q is = absurd (cc (is))
  added-old (e ∷ entries) m x y q is = elim (cases_eq e.0 q) [
    | inl same ↦ at-here e (at_number (entries ++ (m, x) ∷ []) q) q same ∙ sym (at-here e (at_number entries q) q same) ∙ is
    | inr other ↦
        at-later e (at_number (entries ++ (m, x) ∷ []) q) q other
        ∙ added-old entries m x y q (sym (at-later e (at_number entries q) q other) ∙ is)
  ]

  pub added-new : (entries : List (ℕ × X)) (m : ℕ) (x : X) → at_number entries m ≡ None → at_number (entries ++ (m, x) ∷ []) m ≡ Some x
  added-new [] m x none = at-here (m, x) None m refl
  added-new (e ∷ entries) m x none = elim (cases_eq e.0 m) [
    | inl same ↦ absurd (cc (sym (at-here e (at_number entries m) m same) ∙ none))
    | inr other ↦
        at-later e (at_number (entries ++ (m, x) ∷ []) m) m other
        ∙ added-new entries m x (sym (at-later e (at_number entries m) m other) ∙ none)
  ]

  pub added-found : (entries : List (ℕ × X)) (m : ℕ) (x y : X) (q : ℕ) → at_number (entries ++ (m, x) ∷ []) q ≡ Some y → (at_number entries q ≡ Some y) ⊎ ((q ≡ m) × (y ≡ x))
  added-found [] m x y q is = elim (cases_eq m q) [
    | inl same ↦ inr (sym same, (let both : Some x ≡ Some y = sym (at-here (m, x) None q same) ∙ is in cc (both)))
    | inr other ↦ absurd (cc (sym (at-later (m, x) None q other) ∙ is))
  ]
  added-found (e ∷ entries) m x y q is = elim (cases_eq e.0 q) [
    | inl same ↦ inl (at-here e (at_number entries q) q same ∙ sym (at-here e (at_number (entries ++ (m, x) ∷ []) q) q same) ∙ is)
    | inr other ↦ elim (added-found entries m x y q (sym (at-later e (at_number (entries ++ (m, x) ∷ []) q) q other) ∙ is)) [
      | inl old ↦ inl (at-later e (at_number entries q) q other ∙ old)
      | inr new ↦ inr new
    ]
  ]

  -- a test of every entry's value, and one that some value passes
  pub all-at : (p : X → Bool) (entries : List (ℕ × X)) (q : ℕ) (y : X) → list_all (λ (e : ℕ × X). p e.1) entries ≡ true → at_number entries q ≡ Some y → p y ≡ true
  all-at p [] q y all is = absurd (cc (is))
  all-at p (e ∷ entries) q y all is =
      let both = and_parts (p e.1) (list_all (λ (e : ℕ × X). p e.1) entries) all in
      elim (cases_eq e.0 q) [
        | inl same ↦ let one : Some e.1 ≡ Some y = sym (at-here e (at_number entries q) q same) ∙ is in let value : e.1 ≡ y = cc (one) in ap p (sym value) ∙ both.0
        | inr other ↦ all-at p entries q y both.1 (sym (at-later e (at_number entries q) q other) ∙ is)
      ]

  pub any-at : (p : X → Bool) (entries : List (ℕ × X)) (q : ℕ) (y : X) → at_number entries q ≡ Some y → p y ≡ true → list_any (λ (e : ℕ × X). p e.1) entries ≡ true
  any-at p [] q y is passes = absurd (cc (is))
  any-at p (e ∷ entries) q y is passes = elim (cases_eq e.0 q) [
    | inl same ↦
        let one : Some e.1 ≡ Some y = sym (at-here e (at_number entries q) q same) ∙ is in
        let value : e.1 ≡ y = cc (one) in
        ap (λ (b : Bool). b || list_any (λ (e : ℕ × X). p e.1) entries) (ap p value ∙ passes)
    | inr other ↦
        let later : list_any (λ (e : ℕ × X). p e.1) entries ≡ true = any-at p entries q y (sym (at-later e (at_number entries q) q other) ∙ is) passes in
        or-right (p e.1) (list_any (λ (e : ℕ × X). p e.1) entries) later
  ]
    where
      or-right : (a b : Bool) → b ≡ true → (a || b) ≡ true
      or-right true b is = refl
      or-right false b is = is
