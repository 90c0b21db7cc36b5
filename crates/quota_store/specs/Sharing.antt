-- The sessions of a store as they are cut into halves for quotas, and their kept halves as these come behind the locks of their applications.
use Rattle.std.specs.Prelude.{◌≡◌, ◌<◌, ℕ, Bool, true, false, All, List, length, map, if◌then◌else◌, Option, Some, None, is_some, slice_get, slice_index_or, slice_set}
use Rattle.std.specs.Ordering.{is_eq}
use Rattle.tee_types.specs.Identifier.{bytes_cmp}
use Rattle.history_seats.specs.Views.{PassView, Sight}
use Rattle.app_quota.specs.Quotas.{limit_of}
use Rattle.app_quota.specs.declared.quotas.Quota.{Quota}
use Rattle.shared_store.specs.CallerSessions.{CallerSession, IsCallerOf}
use Rattle.shared_store.specs.Stores.{Store}
use Rattle.quota_store.specs.Callers.{QuotaCaller}
use Rattle.quota_store.specs.Halves.{IsHalfOf, app_at, kept_at}

-- Each session is the store's, in order.
pub record AreSeated {E : Type 0} (store : Store) (sessions : List (CallerSession E)) : Type 0 where
  pub many : length sessions ≡ length store.mounted.applications
  pub each : All (λ (s : CallerSession E). IsCallerOf store s) sessions
  pub numbered : (i : ℕ) (d : CallerSession E) → i < length sessions → (slice_index_or sessions i d).number ≡ i

-- each session under quotas is the store's
abbrev pub AreCallers : {E : Type 0} → Store → List (QuotaCaller E) → Type 0
AreCallers {E} store sessions = All (λ (q : QuotaCaller E). IsCallerOf store q.caller) sessions

-- the sessions themselves
abbrev pub callers_of : {E : Type 0} → List (QuotaCaller E) → List (CallerSession E)
callers_of {E} sessions = map (λ (q : QuotaCaller E). q.caller) sessions

-- the session under the limit of its application
abbrev pub limited_by : {E : Type 0} → List Quota → CallerSession E → QuotaCaller E
limited_by quotas s = record { caller = s; limit = limit_of quotas s.state.application }

-- a kept half of the session was put to its place
abbrev pub PutsHalf : Store → (session : ℕ) → (old new : List (Option (Sight PassView))) → Type 0
PutsHalf store session old new = (half : Sight PassView) × IsHalfOf store session half × (new ≡ slice_set old session (Some half))

-- the kept half of each session of the store is here
abbrev pub AreAllKept : Store → List (Option (Sight PassView)) → Type 0
AreAllKept store kept = (session : ℕ) → session < length store.mounted.applications → is_some (kept_at kept session) ≡ true

-- of the sessions of one application all kept halves are here, or none
abbrev pub AreTogether : Store → List (Option (Sight PassView)) → Type 0
AreTogether store kept =
    (i j : ℕ) → i < length store.mounted.applications → j < length store.mounted.applications → is_eq (bytes_cmp (app_at store i) (app_at store j)) ≡ true
    → is_some (kept_at kept i) ≡ is_some (kept_at kept j)

-- each session is of the application that the store has for its place
abbrev pub AreOfApps : {E : Type 0} → Store → List (QuotaCaller E) → Type 0
AreOfApps {E} store sessions =
    (i : ℕ) (d : QuotaCaller E) → i < length sessions → (slice_index_or sessions i d).caller.state.application ≡ app_at store i

-- there is a session, and it is of the application
abbrev pub is_of_app : {E : Type 0} → List ℕ → Option (QuotaCaller E) → Bool
is_of_app app None = false
is_of_app app (Some s) = is_eq (bytes_cmp app s.caller.state.application)

-- so is the session of that number
abbrev pub is_app_at : {E : Type 0} → List ℕ → List (QuotaCaller E) → ℕ → Bool
is_app_at app sessions number = is_of_app app (slice_get sessions number)

-- The kept halves that the test picks were moved from their places to those places, which were empty.
pub record AreMoved (picks : ℕ → Bool) (old new moved : List (Option (Sight PassView))) : Type 0 where
  pub left : (session : ℕ) → kept_at new session ≡ (if picks session then None else kept_at old session)
  pub came : (session : ℕ) → kept_at moved session ≡ (if picks session then kept_at old session else None)
