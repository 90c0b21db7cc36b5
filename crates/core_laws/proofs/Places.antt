-- Where an element of a joined list stands.
use Rattle.std.proofs.Common.{◌≡◌, Bool, false, List, [], ◌∷◌, ◌++◌, refl, sym, ap, ◌∙◌, subst, append-nil}
use Rattle.std.specs.List.{list_any}
use Rattle.history_seats.proofs.Lists.{neither}

-- in the front list with some more behind it, or in the back list with some before it
pub data Place {X : Type 0} (front back : List X) (x : X) (xs ys : List X) : Type 0 where
  Earlier : (more : List X) → front ++ x ∷ more ≡ xs → Place front back x xs ys
  Later : (before : List X) → front ≡ xs ++ before → before ++ x ∷ back ≡ ys → Place front back x xs ys

pub head_same : {X : Type 0} (a b : X) (us vs : List X) → a ∷ us ≡ b ∷ vs → a ≡ b
head_same a b us vs e = cc

pub tail_same : {X : Type 0} (a b : X) (us vs : List X) → a ∷ us ≡ b ∷ vs → us ≡ vs
tail_same a b us vs e = cc

pub not_empty : {X : Type 0} (x : X) (xs : List X) → x ∷ xs ≡ [] → ⊥
not_empty x xs e = cc

pub place_of : {X : Type 0} (front back : List X) (x : X) (xs ys : List X) → front ++ x ∷ back ≡ xs ++ ys → Place front back x xs ys
place_of front back x [] ys e = Later front refl e
place_of [] back x (y ∷ xs) ys e = Earlier xs (λ i. head_same x y back (xs ++ ys) e i ∷ xs)
place_of (f ∷ front) back x (y ∷ xs) ys e =
    elim (place_of front back x xs ys (tail_same f y (front ++ x ∷ back) (xs ++ ys) e)) [
      | Earlier more is ↦ Earlier more (λ i. head_same f y (front ++ x ∷ back) (xs ++ ys) e i ∷ is i)
      | Later before is rest ↦ Later before (λ i. head_same f y (front ++ x ∷ back) (xs ++ ys) e i ∷ is i) rest
    ]

pub one_only : {X : Type 0} (before back : List X) (x r : X) → before ++ x ∷ back ≡ r ∷ [] → (before ≡ []) × (x ≡ r)
one_only [] back x r e = (refl, head_same x r back [] e)
one_only (b ∷ []) back x r e = absurd (not_empty x back (tail_same b r (x ∷ back) [] e))
one_only (b ∷ c ∷ before) back x r e = absurd (not_empty c (before ++ x ∷ back) (tail_same b r (c ∷ (before ++ x ∷ back)) [] e))

-- what holds of each element behind those before it
pub each_snoc : {X : Type 0} (P : List X → X → Type 0) (all : List X) (r : X)
    → ((front : List X) (x : X) (back : List X) → front ++ x ∷ back ≡ all → P front x) → P all r
    → (front : List X) (x : X) (back : List X) → front ++ x ∷ back ≡ all ++ r ∷ [] → P front x
each_snoc {X} P all r each last front x back e =
    elim (place_of front back x all (r ∷ []) e) [
      | Earlier more is ↦ each front x more is
      | Later before is rest ↦
          let parts = one_only before back x r rest in
          subst (λ (p : List X × X). P p.0 p.1) (λ i. (sym (is ∙ ap (λ (l : List X). all ++ l) parts.0 ∙ append-nil all) i, sym parts.1 i)) last
    ]

-- an element of a list that lacks a kind is not of it
pub lacks_one : {X : Type 0} (those : X → Bool) (before back : List X) (x : X) (rest : List X) → before ++ x ∷ back ≡ rest → list_any those rest ≡ false → those x ≡ false
lacks_one those [] back x rest e none = (neither (those x) (list_any those back) (ap (list_any those) e ∙ none)).0
lacks_one those (b ∷ before) back x rest e none =
    lacks_one those before back x (before ++ x ∷ back) refl (neither (those b) (list_any those (before ++ x ∷ back)) (ap (list_any those) e ∙ none)).1
