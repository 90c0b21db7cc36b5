-- Applications that are told once each, and what quotas commit the store to.
use Rattle.std.proofs.Common.{◌≡◌, ◌+◌, ◌-◌, ◌<◌, ℕ, zero, suc, Bool, true, false, true≢false, cond, max, ◌||◌, List, [], ◌∷◌, ◌++◌, length, fold, refl, sym, ap, ◌∙◌, slice_index_or, arith}
use Rattle.std.proofs.lemmas.List.Sums.{sum_by-cons}
use Rattle.std.specs.Prelude.{sum_by}
use Rattle.std.specs.Ordering.{is_eq}
use Rattle.tee_types.specs.Identifier.{bytes_cmp}
use Rattle.store_model.specs.Object.{ObjectMap}
use Rattle.app_totals.specs.Totals.{objects_of}
use Rattle.app_totals.proofs.Names.{itself, same_bytes}
use Rattle.app_quota.specs.Commitments.{AreDistinctApps, claim_of, is_among, unclaimed_of, with_app}
use Rattle.app_quota.specs.Limits.{Limits}
use Rattle.app_quota.specs.Laws.{CommitmentsAreSums, DistinctAppsAreApart}
use Rattle.app_quota.proofs.AppCounts.{count_split}

neither : (b c : Bool) → (b || c) ≡ false → (b ≡ false) × (c ≡ false)
neither true c h = absurd (true≢false h)
neither false c h = (refl, h)

one-of : (b c : Bool) → b ≡ false → c ≡ false → (b || c) ≡ false
one-of b c h e = rw h e

-- whether two are one application is told either way
apart-back : (a b : List ℕ) → is_eq (bytes_cmp a b) ≡ false → is_eq (bytes_cmp b a) ≡ false
apart-back a b apart = one (is_eq (bytes_cmp b a)) refl
  where
    one : (t : Bool) → is_eq (bytes_cmp b a) ≡ t → t ≡ false
    one false same = refl
    one true same =
        let alike : b ≡ a = same_bytes b a same in
        absurd (true≢false (sym (itself a) ∙ ap (λ (x : List ℕ). is_eq (bytes_cmp a x)) (sym alike) ∙ apart))

among-more : (app : List ℕ) (apps : List (List ℕ)) (other : List ℕ) → is_among app apps ≡ false → is_eq (bytes_cmp other app) ≡ false → is_among app (apps ++ other ∷ []) ≡ false
among-more app [] other none apart = one-of (is_eq (bytes_cmp other app)) false apart refl
among-more app (x ∷ apps) other none apart =
    let parts = neither (is_eq (bytes_cmp x app)) (is_among app apps) none in
    one-of (is_eq (bytes_cmp x app)) (is_among app (apps ++ other ∷ [])) parts.0 (among-more app apps other parts.1 apart)

apart-more : (apps : List (List ℕ)) (app : List ℕ) → AreDistinctApps apps → is_among app apps ≡ false → AreDistinctApps (apps ++ app ∷ [])
apart-more [] app apart none = (refl, tt)
apart-more (x ∷ apps) app apart none =
    let parts = neither (is_eq (bytes_cmp x app)) (is_among app apps) none in
    (among-more x apps app apart.0 (apart-back x app parts.0), apart-more apps app apart.1 parts.1)

apart-with : (apps : List (List ℕ)) (app : List ℕ) → AreDistinctApps apps → AreDistinctApps (with_app apps app)
apart-with apps app apart = one (is_among app apps) refl
  where
    one : (b : Bool) → is_among app apps ≡ b → AreDistinctApps (cond b apps (apps ++ app ∷ []))
    one true is = apart
    one false is = apart-more apps app apart is

apart-all : (apps told : List (List ℕ)) → AreDistinctApps told → AreDistinctApps (fold with_app told apps)
apart-all [] told apart = apart
apart-all (app ∷ apps) told apart = apart-all apps (with_app told app) (apart-with told app apart)

-- what is among some is among more
left-any : (b c d : Bool) → (c ≡ true → d ≡ true) → (b || c) ≡ true → (b || d) ≡ true
left-any true c d f h = refl
left-any false c d f h = f h

among-front : (app : List ℕ) (apps : List (List ℕ)) (other : List ℕ) → is_among app apps ≡ true → is_among app (apps ++ other ∷ []) ≡ true
among-front app [] other is = absurd (true≢false (sym is))
among-front app (x ∷ apps) other is = left-any (is_eq (bytes_cmp x app)) (is_among app apps) (is_among app (apps ++ other ∷ [])) (among-front app apps other) is

among-last : (app : List ℕ) (apps : List (List ℕ)) → is_among app (apps ++ app ∷ []) ≡ true
among-last app [] = ap (λ (b : Bool). b || false) (itself app)
among-last app (x ∷ apps) = any-right (is_eq (bytes_cmp x app)) (among-last app apps)
  where
    any-right : (b : Bool) → is_among app (apps ++ app ∷ []) ≡ true → (b || is_among app (apps ++ app ∷ [])) ≡ true
    any-right true h = refl
    any-right false h = h

among-with : (told : List (List ℕ)) (app other : List ℕ) → is_among app told ≡ true → is_among app (with_app told other) ≡ true
among-with told app other is = one (is_among other told)
  where
    one : (b : Bool) → is_among app (cond b told (told ++ other ∷ [])) ≡ true
    one true = is
    one false = among-front app told other is

among-own : (told : List (List ℕ)) (app : List ℕ) → is_among app (with_app told app) ≡ true
among-own told app = one (is_among app told) refl
  where
    one : (b : Bool) → is_among app told ≡ b → is_among app (cond b told (told ++ app ∷ [])) ≡ true
    one true is = is
    one false is = among-last app told

among-kept : (apps told : List (List ℕ)) (app : List ℕ) → is_among app told ≡ true → is_among app (fold with_app told apps) ≡ true
among-kept [] told app is = is
among-kept (x ∷ apps) told app is = among-kept apps (with_app told x) app (among-with told app x is)

among-each : (apps told : List (List ℕ)) (k : ℕ) → k < length apps → is_among (slice_index_or apps k []) (fold with_app told apps) ≡ true
among-each [] told k lt = absurd (omega (arith, lt))
among-each (x ∷ apps) told zero lt = among-kept apps (with_app told x) x (among-own told x)
among-each (x ∷ apps) told (suc k) lt = among-each apps (with_app told x) k (omega (arith, lt))

pub distinct_apps_are_apart : DistinctAppsAreApart
distinct_apps_are_apart = record { apart = λ apps. apart-all apps [] tt; among = λ apps k lt. among-each apps [] k lt }

-- the greater of two numbers is the second, and what the first has more
more-of : (limit held : ℕ) → max limit held ≡ held + (limit - held)
more-of limit held = omega arith

claims : (limits : Limits) (objects : ObjectMap) (apps : List (List ℕ))
    → sum_by (claim_of limits objects) apps ≡ sum_by (λ app. length (objects_of app objects)) apps + sum_by (unclaimed_of limits objects) apps
claims limits objects [] = refl
claims limits objects (app ∷ apps) =
    omega (
      arith,
      more-of (limits app).objects (length (objects_of app objects)),
      claims limits objects apps,
      sum_by-cons (claim_of limits objects) app apps,
      sum_by-cons (λ (other : List ℕ). length (objects_of other objects)) app apps,
      sum_by-cons (unclaimed_of limits objects) app apps,
    )

pub commitments_are_sums : CommitmentsAreSums
commitments_are_sums limits apps objects apart = omega (arith, count_split apps objects apart, claims limits objects apps)
