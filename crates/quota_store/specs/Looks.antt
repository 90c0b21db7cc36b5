-- What the look behind a call tells of the sessions of its application.
use Rattle.std.specs.Prelude.{◌≡◌, ◌≢◌, ℕ, List, length, Option, Some, slice_set}
use Rattle.store_model.specs.Record.{events_of}
use Rattle.history_seats.specs.Rule.{PassFits}
use Rattle.history_seats.specs.Views.{GateView, PassView, Sight}
use Rattle.shared_store.specs.Kept.{AreOfSessions}
use Rattle.shared_store.specs.Stores.{Store}
use Rattle.quota_store.specs.Halves.{IsHalfOf, halves_shown, kept_at}

-- The session's own kept half, which knows so much, is among the others.
pub record HasPut (store : Store) (session : ℕ) (own : PassView) (old new : List (Option (Sight PassView))) : Type 0 where
  pub half : Sight PassView
  pub of : IsHalfOf store session half
  pub knows : half.knows ≡ own
  pub put : new ≡ slice_set old session (Some half)

-- So it is. Past what it saw, and what each other half saw, its session has no event in one history, whose calls are of the store's sessions;
-- and each sees that now.
pub record HaveBeenShown (store : Store) (session : ℕ) (own : PassView) (old new : List (Option (Sight PassView))) : Type 0 where
  pub gate : GateView
  pub between : List (Option (Sight PassView))
  pub back : HasPut store session own old between
  pub fit : PassFits gate own
  pub others_fit : (other : ℕ) (half : Sight PassView) → other ≢ session → kept_at old other ≡ Some half → PassFits gate half.knows
  pub sessions : AreOfSessions (length store.mounted.applications) (events_of gate.all)
  pub shown : new ≡ halves_shown gate between
