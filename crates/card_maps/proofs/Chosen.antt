-- The unused blocks that are chosen: below a number, not used, and rising.
use Rattle.std.proofs.Common.{◌≡◌, ℕ, zero, suc, ◌+◌, ◌-◌, ◌<◌, ◌≤◌, Bool, true, false, cond, List, [], ◌∷◌, ◌++◌, length, get_or, refl, sym, ap, ◌∙◌, subst, inl, inr, length-append, arith}
use Rattle.std.proofs.Math.Seq.{get_or-append_right}
use Rattle.std.proofs.lemmas.Bool.{cases_lt}
use Rattle.std.proofs.lemmas.List.{get_or_append_left}
use Rattle.card_maps.specs.Tables.{unused_below}
use Rattle.card_maps.proofs.Steps.{unused_next, unused_none}

pub record IsChosen (used : List Bool) (n : ℕ) (xs : List ℕ) : Type 0 where
  pub below : (i : ℕ) → i < length xs → get_or xs i 0 < n
  pub free : (i : ℕ) → i < length xs → get_or used (get_or xs i 0) true ≡ false
  pub rising : (i j : ℕ) → j < i → i < length xs → get_or xs j 0 < get_or xs i 0

-- the number that is added stands last
last : (xs : List ℕ) (n i : ℕ) → i < length (xs ++ n ∷ []) → length xs ≤ i → get_or (xs ++ n ∷ []) i 0 ≡ n
last xs n i lt ge =
    get_or-append_right xs (n ∷ []) i 0 ge ∙ ap (λ (k : ℕ). get_or (n ∷ []) k 0) (let e : i - length xs ≡ 0 = omega (arith, lt, ge, length-append xs (n ∷ [])) in e)

chosen_more : (used : List Bool) (n : ℕ) (xs : List ℕ) → IsChosen used n xs → get_or used n true ≡ false → IsChosen used (suc n) (xs ++ n ∷ [])
chosen_more used n xs c is = record {
  below = λ i lt. elim (cases_lt i (length xs)) [
    | inl before ↦ omega (arith, get_or_append_left xs (n ∷ []) 0 i before, c.below i before)
    | inr behind ↦ omega (arith, last xs n i lt behind)
  ];
  free = λ i lt. elim (cases_lt i (length xs)) [
    | inl before ↦ ap (λ (k : ℕ). get_or used k true) (get_or_append_left xs (n ∷ []) 0 i before) ∙ c.free i before
    | inr behind ↦ ap (λ (k : ℕ). get_or used k true) (last xs n i lt behind) ∙ is
  ];
  rising = λ i j less lt. elim (cases_lt i (length xs)) [
    | inl before ↦ omega (arith, get_or_append_left xs (n ∷ []) 0 i before, get_or_append_left xs (n ∷ []) 0 j (omega (arith, less, before)), c.rising i j less before)
    | inr behind ↦
        let first : j < length xs = omega (arith, less, lt, length-append xs (n ∷ [])) in
        omega (arith, last xs n i lt behind, get_or_append_left xs (n ∷ []) 0 j first, c.below j first)
  ];
}

chosen_wider : (used : List Bool) (n : ℕ) (xs : List ℕ) → IsChosen used n xs → IsChosen used (suc n) xs
chosen_wider used n xs c = record { below = λ i lt. omega (arith, c.below i lt); free = c.free; rising = c.rising }

pub chosen : (used : List Bool) (n : ℕ) → IsChosen used n (unused_below used n)
chosen used zero = subst (IsChosen used 0) (sym (unused_none used)) (record { below = λ i lt. absurd (omega (arith, lt)); free = λ i lt. absurd (omega (arith, lt)); rising = λ i j less lt. absurd (omega (arith, lt)) })
chosen used (suc n) =
    let next : unused_below used (suc n) ≡ cond (get_or used n true) (unused_below used n) (unused_below used n ++ n ∷ []) =
    ap (unused_below used) (let e : suc n ≡ n + 1 = omega arith in e) ∙ unused_next used n in
    subst (IsChosen used (suc n)) (sym next) (by_use (get_or used n true) refl (chosen used n))
  where
    by_use : (x : Bool) → get_or used n true ≡ x → IsChosen used n (unused_below used n) → IsChosen used (suc n) (cond x (unused_below used n) (unused_below used n ++ n ∷ []))
    by_use true is before = chosen_wider used n (unused_below used n) before
    by_use false is before = chosen_more used n (unused_below used n) before is
