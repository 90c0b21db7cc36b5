-- Sessions whose calls were each within what their application may have.
use Rattle.std.specs.Prelude.{◌≡◌, ℕ, List, length, true, Some, Result, Ok, Err}
use Rattle.app_totals.specs.declared.numbers.Totals.{Totals}
use Rattle.app_quota.specs.Isolation.{AreOwnWithin}
use Rattle.app_quota.specs.Limits.{Limits, is_beyond}
use Rattle.call_steps.specs.CallerSessions.{CallerSession}
use Rattle.core_laws.specs.Answered.{AreAnswered}
use Rattle.core_laws.specs.Stores.{Store, replay_at, start_under}
use Rattle.core_laws.specs.TamperScenarios.{TamperScenario}
use Rattle.history_seats.specs.Views.{PassView, Sight}
use Rattle.call_steps.specs.declared.PlacedReply.{PlacedReply}
use Rattle.serial_calls.specs.declared.quota_outcome.QuotaOutcome.{QuotaOutcome}
use Rattle.serial_calls.specs.declared.quota_outcome.QuotaOutcome.TheVariants.{Answered, Refused}
use Rattle.tee_types.specs.declared.call.Call.{Call}

-- Under each tamper scenario under which all that the session saw is answered, its calls were within.
abbrev pub HasKeptLimits : {E : Type 0} → Store → Limits → CallerSession E → Type 0
HasKeptLimits store limits s =
    (pass : Sight PassView) → s.pass ≡ Some pass → (scenario : TamperScenario) → AreAnswered store scenario pass.knows.seen
    → AreOwnWithin s.number limits (start_under store scenario) pass.knows.seen

-- The call would leave its application more than it may have, where all that the session saw stands, so many events.
pub record IsBeyondAt {E : Type 0} (store : Store) (limits : Limits) (s : CallerSession E) (call : Call) (place : ℕ) : Type 0 where
  pub pass : Sight PassView
  pub is : s.pass ≡ Some pass
  pub at : place ≡ length pass.knows.seen
  pub beyond : (scenario : TamperScenario) → AreAnswered store scenario pass.knows.seen
      → is_beyond limits (replay_at store scenario pass.knows.seen).state s.number call ≡ true

-- so it is of all limits that give this application so much
abbrev pub WhereLimited : (app : List ℕ) → Totals → (Limits → Type 0) → Type 0
WhereLimited app limit says = (limits : Limits) → limits app ≡ limit → says limits

-- the calls of the session are within its application's limit still
abbrev pub KeepsLimits : {E : Type 0} → Store → Totals → (was now : CallerSession E) → Type 0
KeepsLimits store limit was now = WhereLimited was.state.application limit (λ limits. HasKeptLimits store limits was → HasKeptLimits store limits now)

-- the call was refused rightly, where so many events stood
abbrev pub IsRefusedRightly : {E : Type 0} → Store → Totals → (was now : CallerSession E) → Call → (place : ℕ) → Type 0
IsRefusedRightly store limit was now call place = WhereLimited was.state.application limit (λ limits. IsBeyondAt store limits now call place)

-- what a call under a quota is answered, if it is
abbrev pub answer_in : {X : Type 0} → Result QuotaOutcome X → Result PlacedReply (Unit {0})
answer_in (Ok (Answered answer)) = Ok answer
answer_in (Ok (Refused place)) = Err tt
answer_in (Err none) = Err tt

-- what it was refused by, if it was
abbrev pub IfRefused : {X : Type 0} → Result QuotaOutcome X → (ℕ → Type 0) → Type 0
IfRefused (Ok (Answered answer)) says = Unit {0}
IfRefused (Ok (Refused place)) says = says place
IfRefused (Err none) says = Unit {0}
