-- An entry that is put into a list by its number.
use Rattle.std.proofs.Common.{◌≡◌, ◌≢◌, ◌==◌, ◌<◌, ◌≤◌, ◌+◌, ◌⊎◌, ℕ, List, [], ◌∷◌, Option, Some, None, cond, inl, inr, refl, sym, ap, ◌∙◌, arith}
use Rattle.std.proofs.lemmas.Bool.{cases_eq}
use Rattle.std.proofs.lemmas.Cmp.{ranked}
use Rattle.std.specs.BTreeMap.{insert_entry}
use Rattle.std.specs.Ordering.{match_ordering, nat_cmp}
use Rattle.std.specs.declared.cmp.Ordering.TheVariants.{Less, Equal, Greater}
use Rattle.enumerators.specs.Places.{IsNumbered}
use Rattle.call_rules.proofs.EntryLists.{at-here, at-later, at_number}

module _ {X : Type 0} where
  abbrev pub inserted : List (ℕ × X) → ℕ → X → List (ℕ × X)
  inserted entries m x = insert_entry nat_cmp entries m x

  pub inserted-here : (entries : List (ℕ × X)) (m : ℕ) (x : X) → at_number (inserted entries m x) m ≡ Some x
  inserted-here [] m x = at-here (m, x) None m refl
  inserted-here (e ∷ entries) m x = (elim (nat_cmp m e.0) as (λ o. o ≡ nat_cmp m e.0 → at_number (match_ordering o ((m, x) ∷ e ∷ entries) ((e.0, x) ∷ entries) (e ∷ inserted entries m x)) m ≡ Some x) [
    | Less ↦ λ _. at-here (m, x) (at_number (e ∷ entries) m) m refl
    | Equal ↦ λ is. at-here (e.0, x) (at_number entries m) m (sym (ranked m e.0 Equal is))
    | Greater ↦ λ is. let below : e.0 < m = ranked m e.0 Greater is in at-later e (at_number (inserted entries m x) m) m (λ same. absurd (omega (arith, below, same))) ∙ inserted-here entries m x
  ]) refl

  pub inserted-other : (entries : List (ℕ × X)) (m : ℕ) (x : X) (q : ℕ) → q ≢ m → at_number (inserted entries m x) q ≡ at_number entries q
  inserted-other [] m x q apart = at-later (m, x) None q (λ same. apart (sym same))
  inserted-other (e ∷ entries) m x q apart = (elim (nat_cmp m e.0) as (λ o. o ≡ nat_cmp m e.0 → at_number (match_ordering o ((m, x) ∷ e ∷ entries) ((e.0, x) ∷ entries) (e ∷ inserted entries m x)) q ≡ at_number (e ∷ entries) q) [
    | Less ↦ λ _. at-later (m, x) (at_number (e ∷ entries) q) q (λ same. apart (sym same))
    | Equal ↦ λ is.
        let one : m ≡ e.0 = ranked m e.0 Equal is in
        at-later (e.0, x) (at_number entries q) q (λ same. apart (sym same ∙ sym one)) ∙ sym (at-later e (at_number entries q) q (λ same. apart (sym same ∙ sym one)))
    | Greater ↦ λ _. ap (λ (o : Option X). cond (e.0 == q) (Some e.1) o) (inserted-other entries m x q apart)
  ]) refl

  pub inserted-found : (entries : List (ℕ × X)) (m : ℕ) (x y : X) (q : ℕ) → at_number (inserted entries m x) q ≡ Some y → ((q ≡ m) × (y ≡ x)) ⊎ ((q ≢ m) × (at_number entries q ≡ Some y))
  inserted-found entries m x y q is = elim (cases_eq q m) [
    | inl same ↦
        let both : Some x ≡ Some y = sym (inserted-here entries m x) ∙ ap (at_number (inserted entries m x)) (sym same) ∙ is in
        inl (same, (let value : x ≡ y = cc (both) in sym value))
    | inr other ↦ inr (other, sym (inserted-other entries m x q other) ∙ is)
  ]

  pub numbered-higher : (entries : List (ℕ × X)) (low next higher : ℕ) → next ≤ higher → IsNumbered low entries next → IsNumbered low entries higher
  numbered-higher [] low next higher le numbered = omega (arith, le, numbered)
  numbered-higher (e ∷ entries) low next higher le numbered = (numbered.0, numbered-higher entries (e.0 + 1) next higher le numbered.1)

  pub numbered-inserted : (entries : List (ℕ × X)) (low next m : ℕ) (x : X) → low ≤ m → m < next → IsNumbered low entries next → IsNumbered low (inserted entries m x) next
  numbered-inserted [] low next m x above below numbered = (above, omega (arith, below))
  numbered-inserted (e ∷ entries) low next m x above below numbered = (elim (nat_cmp m e.0) as (λ o. o ≡ nat_cmp m e.0 → IsNumbered low (match_ordering o ((m, x) ∷ e ∷ entries) ((e.0, x) ∷ entries) (e ∷ inserted entries m x)) next) [
    | Less ↦ λ is. let first : m < e.0 = ranked m e.0 Less is in (above, (omega (arith, first), numbered.1))
    | Equal ↦ λ _. (numbered.0, numbered.1)
    | Greater ↦ λ is. let later : e.0 < m = ranked m e.0 Greater is in (numbered.0, numbered-inserted entries (e.0 + 1) next m x (omega (arith, later)) below numbered.1)
  ]) refl
