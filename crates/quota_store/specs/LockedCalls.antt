-- What a call under quotas leaves of its session and of the kept halves behind the lock of its application.
use Rattle.std.specs.Prelude.{◌≡◌, ◌⊎◌, ◌<◌, ℕ, true, false, List, length, Option, Some, Result, Ok, Err}
use Rattle.tee_types.specs.declared.call.Call.{Call}
use Rattle.app_totals.specs.declared.numbers.Forecast.{Forecast}
use Rattle.app_totals.specs.declared.numbers.Totals.{Totals}
use Rattle.app_quota.specs.Limits.{tells_beyond}
use Rattle.history_seats.specs.Views.{GateView, PassView, Sight}
use Rattle.shared_store.specs.Attempts.{IsAnswered}
use Rattle.shared_store.specs.SessionEvents.{IsWaiting}
use Rattle.shared_store.specs.CallerSessions.{CallerSession}
use Rattle.shared_store.specs.ForeseenCalls.{IsAnsweredEarly, IsForeseen}
use Rattle.shared_store.specs.QuotaCallers.{IsRefusedRightly}
use Rattle.shared_store.specs.Stores.{Store}
use Rattle.shared_store.specs.declared.PlacedReply.{PlacedReply}
use Rattle.shared_store.specs.declared.QuotaOutcome.{QuotaOutcome}
use Rattle.shared_store.specs.declared.QuotaOutcome.TheVariants.{Answered, Refused}
use Rattle.quota_store.specs.Halves.{AreHalves, halves_shown, kept_at}

-- The halves that were there are there, and that of the session.
pub record KeepsHalves (store : Store) (session : ℕ) (old new : List (Option (Sight PassView))) : Type 0 where
  pub halves : AreHalves store new
  pub others : (other : ℕ) (half : Sight PassView) → kept_at old other ≡ Some half → (shown : Sight PassView) × (kept_at new other ≡ Some shown)
  pub own : session < length old → (half : Sight PassView) × (kept_at new session ≡ Some half)

-- It is refused rightly.
pub record IsRefusedBy {E : Type 0} (store : Store) (limit : Totals) (was now : CallerSession E) (call : Call) (place : ℕ) : Type 0 where
  pub waits : IsWaiting store was now
  pub beyond : IsRefusedRightly store limit was now call place

-- the call is answered or refused; or memory ran out
abbrev pub EndsLocked : {E X : Type 0} → Store → Totals → (was now : CallerSession E) → Call → Result QuotaOutcome X → Type 0
EndsLocked store limit was now call (Ok (Answered answer)) = IsAnswered store was now call answer
EndsLocked store limit was now call (Ok (Refused place)) = IsRefusedBy store limit was now call place
EndsLocked store limit was now call (Err none) = IsWaiting store was now

module _ {E : Type 0} (store : Store) (limit : Totals) (was now : CallerSession E) (call : Call) (old new : List (Option (Sight PassView))) where
  -- The call was forecast to stay within the limit, where the kept halves of the other sessions saw all that its own saw; and then answered.
  pub record IsServedWithin (answer : PlacedReply) : Type 0 where
    pub gate : GateView
    pub mid : CallerSession E
    pub forecast : Forecast
    pub foreseen : IsForeseen store gate was mid call forecast
    pub within : tells_beyond limit forecast ≡ false
    pub answered : IsAnswered store mid now call answer
    pub shown : new ≡ halves_shown gate old

  -- It was forecast to go beyond the limit.
  pub record IsForeseenBeyond (place : ℕ) : Type 0 where
    pub gate : GateView
    pub forecast : Forecast
    pub foreseen : IsForeseen store gate was now call forecast
    pub beyond : tells_beyond limit forecast ≡ true
    pub at : place ≡ forecast.place
    pub shown : new ≡ halves_shown gate old

  abbrev pub CameTo : {X : Type 0} → Result QuotaOutcome X → Type 0
  CameTo (Ok (Answered answer)) = ((gate : GateView) × IsAnsweredEarly store gate was now call answer) ⊎ IsServedWithin answer
  CameTo (Ok (Refused place)) = IsForeseenBeyond place
  CameTo (Err none) = IsWaiting store was now

-- Which kept halves are there is as before.
abbrev pub AreKeptAlike : (old new : List (Option (Sight PassView))) → Type 0
AreKeptAlike old new =
    (session : ℕ) (half : Sight PassView) → kept_at old session ≡ Some half → (shown : Sight PassView) × (kept_at new session ≡ Some shown)
