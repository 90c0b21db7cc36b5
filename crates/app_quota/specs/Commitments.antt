-- What quotas commit the store to.
use Rattle.std.specs.Prelude.{◌≡◌, ℕ, ◌+◌, ◌-◌, max, Bool, false, not, if◌then◌else◌, List, [], ◌∷◌, ◌++◌, length, filter, fold, sum_by}
use Rattle.std.specs.List.{list_any}
use Rattle.std.specs.Ordering.{is_eq}
use Rattle.tee_types.specs.Identifier.{bytes_cmp}
use Rattle.store_model.specs.Object.{ObjectMap}
use Rattle.store_model.specs.Enumerating.{is_of}
use Rattle.app_totals.specs.Totals.{objects_of}
use Rattle.app_quota.specs.Limits.{Limits}

-- the application is one of these
abbrev pub is_among : List ℕ → List (List ℕ) → Bool
is_among app apps = list_any (λ other. is_eq (bytes_cmp other app)) apps

-- no application is in the list twice
abbrev pub AreDistinctApps : List (List ℕ) → Type 0
AreDistinctApps [] = Unit {0}
AreDistinctApps (app ∷ apps) = (is_among app apps ≡ false) × AreDistinctApps apps

-- the objects of applications that are none of these
abbrev pub others_of : List (List ℕ) → ObjectMap → ObjectMap
others_of apps objects = filter (λ entry. not (list_any (λ app. is_of app entry) apps)) objects

-- the greater of what an application may have, and of what it has
abbrev pub claim_of : Limits → ObjectMap → List ℕ → ℕ
claim_of limits objects app = max (limits app).objects (length (objects_of app objects))

-- the objects of undeclared applications, and what each declared one claims
abbrev pub committed_objects : Limits → List (List ℕ) → ObjectMap → ℕ
committed_objects limits apps objects = length (others_of apps objects) + sum_by (claim_of limits objects) apps

-- these applications, each once, where it comes first
abbrev pub with_app : List (List ℕ) → List ℕ → List (List ℕ)
with_app apps app = if is_among app apps then apps else apps ++ app ∷ []

abbrev pub distinct_apps : List (List ℕ) → List (List ℕ)
distinct_apps apps = fold with_app [] apps

-- what the applications may have beyond what they have
abbrev pub unclaimed_of : Limits → ObjectMap → List ℕ → ℕ
unclaimed_of limits objects app = (limits app).objects - length (objects_of app objects)
