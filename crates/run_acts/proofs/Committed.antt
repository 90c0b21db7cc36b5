-- What quotas commit a store to, one application after another.
use Rattle.std.proofs.Common.{◌≡◌, ◌+◌, ◌<◌, ◌≤◌, ℕ, Bool, true, false, cond, ◌||◌, List, [], ◌∷◌, ◌++◌, length, take, drop, get_or, fold, take-append-drop, refl, sym, ap, ◌∙◌, subst, arith}
use Rattle.std.specs.Prelude.{sum_by}
use Rattle.std.specs.List.{list_any}
use Rattle.std.specs.Ordering.{is_eq}
use Rattle.std.proofs.lemmas.Bool.{or_right}
use Rattle.std.proofs.lemmas.List.{take_more}
use Rattle.std.proofs.lemmas.List.Sums.{sum_by-append, sum_by-cons}
use Rattle.tee_types.specs.Identifier.{bytes_cmp}
use Rattle.app_totals.proofs.Names.{same_bytes}
use Rattle.app_quota.specs.Commitments.{committed_objects, distinct_apps, is_among, with_app}
use Rattle.app_quota.specs.Quotas.{limit_of}
use Rattle.app_quota.specs.declared.quotas.Quota.{Quota}
use Rattle.store_model.specs.Object.{ObjectMap}
use Rattle.run_acts.specs.QuotaRefusals.{AreRoomFor}
use Rattle.run_acts.proofs.Tests.{or-assoc, or-none}

any-append : (p : List ℕ → Bool) (xs ys : List (List ℕ)) → list_any p (xs ++ ys) ≡ (list_any p xs || list_any p ys)
any-append p [] ys = refl
any-append p (x ∷ xs) ys = ap (λ t. p x || t) (any-append p xs ys) ∙ sym (or-assoc (p x) (list_any p xs) (list_any p ys))

-- ONE OF THEM
among-last : (app : List ℕ) (apps : List (List ℕ)) (last : List ℕ) → is_among app (apps ++ last ∷ []) ≡ (is_among app apps || is_eq (bytes_cmp last app))
among-last app apps last = any-append (λ other. is_eq (bytes_cmp other app)) apps (last ∷ []) ∙ ap (λ b. is_among app apps || b) (or-none (is_eq (bytes_cmp last app)) false refl)

among-more : (app : List ℕ) (apps : List (List ℕ)) (index : ℕ) (other : List ℕ) → index < length apps → other ≡ get_or apps index other
    → is_among app (take (index + 1) apps) ≡ (is_among app (take index apps) || is_eq (bytes_cmp other app))
among-more app apps index other below is =
    ap (is_among app) (take_more apps index other below ∙ ap (λ (x : List ℕ). take index apps ++ x ∷ []) (sym is)) ∙ among-last app (take index apps) other

pub among-not : (app : List ℕ) (apps : List (List ℕ)) (index : ℕ) (other : List ℕ) → index < length apps → other ≡ get_or apps index other → is_eq (bytes_cmp other app) ≡ false
    → is_among app (take index apps) ≡ false → is_among app (take (index + 1) apps) ≡ false
among-not app apps index other below is apart none = among-more app apps index other below is ∙ ap (λ b. is_among app (take index apps) || b) apart ∙ ap (λ b. b || false) none

pub among-here : (app : List ℕ) (apps : List (List ℕ)) (index : ℕ) (other : List ℕ) → index < length apps → other ≡ get_or apps index other → is_eq (bytes_cmp other app) ≡ true → is_among app apps ≡ true
among-here app apps index other below is same =
    ap (is_among app) (sym (take-append-drop (index + 1) apps))
    ∙ any-append (λ x. is_eq (bytes_cmp x app)) (take (index + 1) apps) (drop (index + 1) apps)
    ∙ ap (λ b. b || is_among app (drop (index + 1) apps)) (among-more app apps index other below is ∙ ap (λ b. is_among app (take index apps) || b) same ∙ or_right (is_among app (take index apps)) true refl)

-- one more that may be there already
among-with : (app : List ℕ) (told : List (List ℕ)) (x : List ℕ) → is_among app (with_app told x) ≡ (is_among app told || is_eq (bytes_cmp x app))
among-with app told x = (elim (is_among x told) as (λ b. is_among x told ≡ b → is_among app (cond b told (told ++ x ∷ [])) ≡ (is_among app told || is_eq (bytes_cmp x app))) [
  | true ↦ λ there. (elim (is_eq (bytes_cmp x app)) as (λ c. is_eq (bytes_cmp x app) ≡ c → is_among app told ≡ (is_among app told || c)) [
    | true ↦ λ same.
        let is : is_among app told ≡ true = ap (λ (a : List ℕ). is_among a told) (sym (same_bytes x app same)) ∙ there in
        is ∙ ap (λ b. b || true) (sym is)
    | false ↦ λ apart. sym (or-none (is_among app told) false refl)
  ]) refl
  | false ↦ λ none. among-last app told x
]) refl

among-fold : (app : List ℕ) (xs told : List (List ℕ)) → is_among app (fold with_app told xs) ≡ (is_among app told || is_among app xs)
among-fold app [] told = sym (or-none (is_among app told) false refl)
among-fold app (x ∷ xs) told =
    among-fold app xs (with_app told x)
    ∙ ap (λ b. b || is_among app xs) (among-with app told x)
    ∙ or-assoc (is_among app told) (is_eq (bytes_cmp x app)) (is_among app xs)

-- what is told once each is what is told
pub among-distinct : (app : List ℕ) (xs : List (List ℕ)) → is_among app (distinct_apps xs) ≡ is_among app xs
among-distinct app xs = among-fold app xs []

fold-more : (told xs : List (List ℕ)) (x : List ℕ) → fold with_app told (xs ++ x ∷ []) ≡ with_app (fold with_app told xs) x
fold-more told [] x = refl
fold-more told (y ∷ xs) x = fold-more (with_app told y) xs x

distinct-more : (apps : List (List ℕ)) (index : ℕ) (app : List ℕ) → index < length apps → app ≡ get_or apps index app → distinct_apps (take (index + 1) apps) ≡ with_app (distinct_apps (take index apps)) app
distinct-more apps index app below is =
    ap distinct_apps (take_more apps index app below ∙ ap (λ (x : List ℕ). take index apps ++ x ∷ []) (sym is)) ∙ fold-more [] (take index apps) app

module _ (f : List ℕ → ℕ) (apps : List (List ℕ)) (index : ℕ) (app : List ℕ) (below : index < length apps) (is : app ≡ get_or apps index app) where
  -- an application that was told before
  pub sum-told : is_among app (take index apps) ≡ true → sum_by f (distinct_apps (take (index + 1) apps)) ≡ sum_by f (distinct_apps (take index apps))
  sum-told there =
      ap (sum_by f) (distinct-more apps index app below is)
      ∙ ap (λ (b : Bool). sum_by f (cond b (distinct_apps (take index apps)) (distinct_apps (take index apps) ++ app ∷ []))) (among-distinct app (take index apps) ∙ there)

  -- and one that was not
  pub sum-new : is_among app (take index apps) ≡ false → sum_by f (distinct_apps (take (index + 1) apps)) ≡ sum_by f (distinct_apps (take index apps)) + f app
  sum-new none =
      let told = distinct_apps (take index apps) in
      let last : sum_by f (app ∷ []) ≡ f app + sum_by f [] = sum_by-cons f app [] in
      let nothing : sum_by f [] ≡ 0 = refl in
      ap (sum_by f) (distinct-more apps index app below is)
      ∙ ap (λ (b : Bool). sum_by f (cond b told (told ++ app ∷ []))) (among-distinct app (take index apps) ∙ none)
      ∙ omega (arith, sum_by-append f told (app ∷ []), last, nothing)

-- quotas for which there is room
pub room-none : (quotas : List Quota) (applications : List (List ℕ)) (objects : ObjectMap) → quotas ≡ [] → AreRoomFor quotas applications objects
room-none quotas applications objects none = subst (λ (l : List Quota). AreRoomFor l applications objects) (sym none) tt

pub room-for : (quotas : List Quota) (applications : List (List ℕ)) (objects : ObjectMap) → committed_objects (limit_of quotas) (distinct_apps applications) objects ≤ 256 → AreRoomFor quotas applications objects
room-for [] applications objects fits = tt
room-for (quota ∷ quotas) applications objects fits = fits
