-- What lists contain that were filtered or mapped.
use Rattle.std.proofs.Common.{◌≡◌, ◌⊎◌, ℕ, zero, suc, ◌<◌, List, [], ◌∷◌, length, Bool, true, map, filter, inl, inr, refl, sym, ◌∙◌, ap, subst, arith}
use Rattle.std.specs.Prelude.{Contains, slice_index_or}
use Rattle.std.proofs.lemmas.Bool.{cases_Bool, cond-true, cond-false}

pub contains_first : {X : Type 0} (x y : X) (xs : List X) → x ≡ y → Contains (x ∷ xs) y
contains_first x y xs is = (0, omega arith, is)

pub contains_later : {X : Type 0} (x y : X) (xs : List X) → Contains xs y → Contains (x ∷ xs) y
contains_later x y xs has = (suc has.0, omega (arith, has.1), has.2)

pub contains_cases : {X : Type 0} (x y : X) (xs : List X) → Contains (x ∷ xs) y → (x ≡ y) ⊎ Contains xs y
contains_cases x y xs has = at has.0 has.1 has.2
  where
    at : (k : ℕ) → k < length (x ∷ xs) → slice_index_or (x ∷ xs) k y ≡ y → (x ≡ y) ⊎ Contains xs y
    at zero lt is = inl is
    at (suc k) lt is = inr (k, omega (arith, lt), is)

pub contains_none : {X : Type 0} (y : X) → Contains [] y → ⊥
contains_none y has = omega (arith, has.1)

pub contains_filtered : {X : Type 0} (keep : X → Bool) (xs : List X) (y : X) → keep y ≡ true → Contains xs y → Contains (filter keep xs) y
contains_filtered keep [] y kept has = absurd (contains_none y has)
contains_filtered keep (x ∷ xs) y kept has = elim (cases_Bool (keep x)) [
  | inl stays ↦ subst (λ l. Contains l y) (sym (cond-true (keep x) (x ∷ filter keep xs) (filter keep xs) stays)) (elim (contains_cases x y xs has) [
    | inl is ↦ contains_first x y (filter keep xs) is
    | inr more ↦ contains_later x y (filter keep xs) (contains_filtered keep xs y kept more)
  ])
  | inr goes ↦ subst (λ l. Contains l y) (sym (cond-false (keep x) (x ∷ filter keep xs) (filter keep xs) goes)) (elim (contains_cases x y xs has) [
    | inl is ↦ absurd (cc (sym goes ∙ ap keep is ∙ kept))
    | inr more ↦ contains_filtered keep xs y kept more
  ])
]

pub filtered_contains : {X : Type 0} (keep : X → Bool) (xs : List X) (y : X) → Contains (filter keep xs) y → Contains xs y × (keep y ≡ true)
filtered_contains keep [] y has = absurd (contains_none y has)
filtered_contains keep (x ∷ xs) y has = elim (cases_Bool (keep x)) [
  | inl stays ↦ elim (contains_cases x y (filter keep xs) (subst (λ l. Contains l y) (cond-true (keep x) (x ∷ filter keep xs) (filter keep xs) stays) has)) [
    | inl is ↦ (contains_first x y xs is, ap keep (sym is) ∙ stays)
    | inr more ↦ let rest = filtered_contains keep xs y more in (contains_later x y xs rest.0, rest.1)
  ]
  | inr goes ↦ let rest = filtered_contains keep xs y (subst (λ l. Contains l y) (cond-false (keep x) (x ∷ filter keep xs) (filter keep xs) goes) has) in (contains_later x y xs rest.0, rest.1)
]

pub contains_mapped : {X Y : Type 0} (f : X → Y) (xs : List X) (x : X) → Contains xs x → Contains (map f xs) (f x)
contains_mapped f [] x has = absurd (contains_none x has)
contains_mapped f (y ∷ xs) x has = elim (contains_cases y x xs has) [
  | inl is ↦ contains_first (f y) (f x) (map f xs) (ap f is)
  | inr more ↦ contains_later (f y) (f x) (map f xs) (contains_mapped f xs x more)
]

pub mapped_contains : {X Y : Type 0} (f : X → Y) (xs : List X) (y : Y) → Contains (map f xs) y → (x : X) × Contains xs x × (f x ≡ y)
mapped_contains f [] y has = absurd (contains_none y has)
mapped_contains f (x ∷ xs) y has = elim (contains_cases (f x) y (map f xs) has) [
  | inl is ↦ (x, contains_first x x xs refl, is)
  | inr more ↦ let rest = mapped_contains f xs y more in (rest.0, contains_later x rest.0 xs rest.1, rest.2)
]
