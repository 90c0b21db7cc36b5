-- The limit of 256 objects is met by nobody where quotas are not over-committed.
use Rattle.std.proofs.Common.{◌≡◌, ℕ, suc, ◌+◌, ◌<◌, ◌≤◌, true, false, true≢false, cond, not, ◌||◌, List, [], ◌∷◌, length, refl, sym, ap, ◌∙◌, subst, arith}
use Rattle.std.specs.Prelude.{sum_by}
use Rattle.std.specs.List.{list_any}
use Rattle.std.proofs.lemmas.List.Sums.{sum_by-cons}
use Rattle.std.specs.Ordering.{is_eq}
use Rattle.tee_types.specs.Identifier.{bytes_cmp}
use Rattle.store_model.specs.declared.name.ObjectName.{ObjectName}
use Rattle.store_model.specs.Object.{Object, ObjectMap}
use Rattle.store_model.specs.Enumerating.{is_of}
use Rattle.app_totals.specs.Totals.{objects_of}
use Rattle.app_quota.specs.Commitments.{others_of, AreDistinctApps, is_among}
use Rattle.app_totals.proofs.Names.{same_bytes}

-- an object of the one application is of none of these
apart_from : (a : List ℕ) (apps : List (List ℕ)) (e : ObjectName × Object) → is_among a apps ≡ false → is_of a e ≡ true → list_any (λ app. is_of app e) apps ≡ false
apart_from a apps e apart its =
    ap (λ (x : List ℕ). list_any (λ app. is_eq (bytes_cmp app x)) apps) (sym (same_bytes a (e.0).app its)) ∙ apart

one_less : (a : List ℕ) (apps : List (List ℕ)) → is_among a apps ≡ false → (m : ObjectMap) → length (others_of apps m) ≡ length (objects_of a m) + length (others_of (a ∷ apps) m)
one_less a apps apart [] = refl
one_less a apps apart (e ∷ m) = (elim (is_of a e) as (λ b. is_of a e ≡ b
    → length (cond (not (list_any (λ app. is_of app e) apps)) (e ∷ others_of apps m) (others_of apps m))
    ≡ length (cond b (e ∷ objects_of a m) (objects_of a m)) + length (cond (not (b || list_any (λ app. is_of app e) apps)) (e ∷ others_of (a ∷ apps) m) (others_of (a ∷ apps) m))) [
      | true ↦ λ its.
          let rest = one_less a apps apart m in
          ap (λ b. length (cond (not b) (e ∷ others_of apps m) (others_of apps m))) (apart_from a apps e apart its)
          ∙ omega (arith, rest)
      | false ↦ λ none. elim (list_any (λ app. is_of app e) apps) as (λ b.
          length (cond (not b) (e ∷ others_of apps m) (others_of apps m)) ≡ length (objects_of a m) + length (cond (not b) (e ∷ others_of (a ∷ apps) m) (others_of (a ∷ apps) m))) [
            | true ↦ one_less a apps apart m
            | false ↦ let less = one_less a apps apart m in omega (arith, less)
          ]
    ]) refl

none_of : (m : ObjectMap) → length m ≡ length (others_of [] m)
none_of [] = refl
none_of (e ∷ m) = ap suc (none_of m)

-- each object is one of these applications', or of none of them
pub count_split : (apps : List (List ℕ)) (m : ObjectMap) → AreDistinctApps apps → length m ≡ length (others_of apps m) + sum_by (λ app. length (objects_of app m)) apps
count_split [] m apart = let same = none_of m in omega (arith, same)
count_split (a ∷ apps) m apart =
    let rest = count_split apps m apart.1 in
    let one = one_less a apps apart.0 m in
    let more = sum_by-cons (λ app. length (objects_of app m)) a apps in
    omega (arith, rest, one, more)

sum_within : (f g : List ℕ → ℕ) (apps : List (List ℕ)) → ((app : List ℕ) → f app ≤ g app) → sum_by f apps ≤ sum_by g apps
sum_within f g [] each = omega arith
sum_within f g (a ∷ apps) each =
    let rest = sum_within f g apps each in
    let one = each a in
    let fs = sum_by-cons f a apps in
    let gs = sum_by-cons g a apps in
    omega (arith, rest, one, fs, gs)

sum_below : (f g : List ℕ → ℕ) (app : List ℕ) (apps : List (List ℕ)) → is_among app apps ≡ true → ((a : List ℕ) → f a ≤ g a) → f app < g app → sum_by f apps < sum_by g apps
sum_below f g app [] among each below = absurd (true≢false (sym among))
sum_below f g app (a ∷ apps) among each below = (elim (is_eq (bytes_cmp a app)) as (λ b. is_eq (bytes_cmp a app) ≡ b → (b || is_among app apps) ≡ true → sum_by f (a ∷ apps) < sum_by g (a ∷ apps)) [
  | true ↦ λ same _.
      let is : a ≡ app = same_bytes a app same in
      let here : f a < g a = subst (λ x. f x < g x) (sym is) below in
      let rest = sum_within f g apps each in
      let fs = sum_by-cons f a apps in
      let gs = sum_by-cons g a apps in
      omega (arith, here, rest, fs, gs)
  | false ↦ λ _ later.
      let rest = sum_below f g app apps later each below in
      let one = each a in
      let fs = sum_by-cons f a apps in
      let gs = sum_by-cons g a apps in
      omega (arith, rest, one, fs, gs)
]) refl among

-- An application that is below what it may have leaves room, where all have at most that, and that is not more than the store holds.
pub has_room : (apps : List (List ℕ)) (cap : List ℕ → ℕ) (others : ℕ) (app : List ℕ) (m : ObjectMap) → AreDistinctApps apps → is_among app apps ≡ true
    → length (others_of apps m) ≤ others → ((a : List ℕ) → length (objects_of a m) ≤ cap a) → length (objects_of app m) < cap app → others + sum_by cap apps ≤ 256 → length m < 256
has_room apps cap others app m apart among few each below fits =
    let split = count_split apps m apart in
    let less = sum_below (λ a. length (objects_of a m)) cap app apps among each below in
    omega (arith, split, less, few, fits)
