-- What stands behind an application's lock: the kept halves of its sessions' seats.
use Rattle.std.specs.Prelude.{◌≡◌, ◌≢◌, ◌<◌, ℕ, true, false, All, List, [], length, map, Option, Some, None, is_some, slice_index_or}
use Rattle.std.specs.Option.{option_map}
use Rattle.std.specs.Ordering.{is_eq}
use Rattle.tee_types.specs.Identifier.{bytes_cmp}
use Rattle.history_seats.specs.Changes.{pass_renewed}
use Rattle.history_seats.specs.Rule.{PassFits}
use Rattle.history_seats.specs.Views.{GateView, PassView, Sight}
use Rattle.shared_store.specs.Stores.{Store}

-- the application, and by the number of each session the kept half of its seat, if that is here
pub record HalvesValue : Type 0 where
  pub app : List ℕ
  pub kept : List (Option (Sight PassView))

abbrev pub kept_at : List (Option (Sight PassView)) → ℕ → Option (Sight PassView)
kept_at kept session = slice_index_or kept session None

-- the application of the store's session of that number
abbrev pub app_at : Store → ℕ → List ℕ
app_at store session = slice_index_or store.mounted.applications session []

-- It is a half of the store's session of that number.
pub record IsHalfOf (store : Store) (session : ℕ) (half : Sight PassView) : Type 0 where
  pub table : half.table ≡ store.table
  pub own : half.knows.session ≡ session

abbrev pub AreHalves : Store → List (Option (Sight PassView)) → Type 0
AreHalves store kept = (session : ℕ) (half : Sight PassView) → kept_at kept session ≡ Some half → IsHalfOf store session half

-- the kept half of each session of the application is here
abbrev pub AreAllHere : Store → (app : List ℕ) → List (Option (Sight PassView)) → Type 0
AreAllHere store app kept =
    (session : ℕ) → session < length store.mounted.applications → is_eq (bytes_cmp app (app_at store session)) ≡ true
    → (half : Sight PassView) × (kept_at kept session ≡ Some half)

-- the kept half of each other session of the session's application is here
abbrev pub AreOthersHere : Store → (session : ℕ) → List (Option (Sight PassView)) → Type 0
AreOthersHere store session kept =
    (other : ℕ) → other < length store.mounted.applications → other ≢ session → is_eq (bytes_cmp (app_at store session) (app_at store other)) ≡ true
    → (half : Sight PassView) × (kept_at kept other ≡ Some half)

-- What always stands behind the lock.
pub record AreAppHalves (store : Store) (h : HalvesValue) : Type 0 where
  pub halves : AreHalves store h.kept
  pub all : AreAllHere store h.app h.kept

-- Places for the kept halves of sixteen sessions, all of them empty.
pub record AreEmptyPlaces (places : List (Option (Sight PassView))) : Type 0 where
  pub many : length places ≡ 16
  pub empty : All (λ place. is_some place ≡ false) places

-- a half once it sees the whole history
abbrev pub half_shown : GateView → Sight PassView → Sight PassView
half_shown gate half = record half { knows = pass_renewed gate half.knows }

abbrev pub halves_shown : GateView → List (Option (Sight PassView)) → List (Option (Sight PassView))
halves_shown gate kept = map (option_map (half_shown gate)) kept

-- past what each half saw its session has no event
abbrev pub AllFit : GateView → List (Option (Sight PassView)) → Type 0
AllFit gate kept = (session : ℕ) (half : Sight PassView) → kept_at kept session ≡ Some half → PassFits gate half.knows
