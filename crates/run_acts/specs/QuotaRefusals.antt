-- Calls of a phase that were refused under its quotas, and what the phase keeps of these.
use Rattle.std.specs.Prelude.{◌≡◌, ◌⊎◌, ◌==◌, ◌<◌, ◌≤◌, ℕ, suc, Bool, true, if◌then◌else◌, All, AllPairs, List, [], ◌∷◌, length, slice_get, take, Option, Some, None}
use Rattle.std.specs.List.{list_any}
use Rattle.app_quota.specs.Commitments.{committed_objects, distinct_apps}
use Rattle.app_quota.specs.Isolation.{AreWithin}
use Rattle.app_quota.specs.Limits.{Limits, is_beyond}
use Rattle.app_quota.specs.Quotas.{limit_of}
use Rattle.app_quota.specs.declared.quotas.Quota.{Quota}
use Rattle.core_laws.specs.Answered.{AreAnswered}
use Rattle.core_laws.specs.Stores.{Store, replay_at, start_under}
use Rattle.core_laws.specs.TamperScenarios.{TamperScenario}
use Rattle.history_seats.specs.Records.{HistoryRecord}
use Rattle.script_text.specs.declared.script.Step.{Step}
use Rattle.script_text.specs.declared.script.Step.TheVariants.{Call as CallStep, Control as ControlStep}
use Rattle.store_model.specs.History.{calls_of}
use Rattle.store_model.specs.Object.{ObjectMap, most_objects}
use Rattle.store_model.specs.Record.{events_of}
use Rattle.tee_types.specs.declared.call.Call.{Call}
use Rattle.run_acts.specs.declared.refused_call.RefusedCall.{RefusedCall}
use Rattle.run_acts.specs.ServedSteps.{calls_in}

-- the call of the step of that number is one of the refused ones
abbrev pub is_refused : List RefusedCall → (number : ℕ) → Bool
is_refused refused number = list_any (λ r. r.step == number) refused

-- of these steps, the first of which has that number, those that were admitted, in order
abbrev pub admitted_from : (number : ℕ) → List RefusedCall → List Step → List Step
admitted_from number refused [] = []
admitted_from number refused (step ∷ steps) =
    if is_refused refused number then admitted_from (suc number) refused steps else step ∷ admitted_from (suc number) refused steps

-- the steps that were admitted, in order
abbrev pub admitted : List RefusedCall → List Step → List Step
admitted refused steps = admitted_from 0 refused steps

-- Behind these records the call would leave the application of its session more than it may have.
abbrev pub IsBeyondBehind : Store → Limits → List HistoryRecord → (session : ℕ) → Call → Type 0
IsBeyondBehind store limits records session call =
    (scenario : TamperScenario) → AreAnswered store scenario records → is_beyond limits (replay_at store scenario records).state session call ≡ true

-- The call of a step was refused rightly, where so many records stood: it would have left its application more than that may have, and of the
-- application's calls just those of the earlier steps that were admitted stood there.
pub record IsRightlyRefused (limits : Limits) (store : Store) (records : List HistoryRecord) (steps : List Step) (refused : List RefusedCall) (r : RefusedCall) : Type 0 where
  pub app : ℕ
  pub call : Call
  pub is : slice_get steps r.step ≡ Some (CallStep app call)
  pub stood : r.place ≤ length records
  pub beyond : IsBeyondBehind store limits (take r.place records) app call
  pub between : calls_of app (events_of (take r.place records)) ≡ calls_in app (admitted refused (take r.step steps))

-- the application of a step, by its number
abbrev pub app_in : Option Step → ℕ
app_in (Some (CallStep app call)) = app
app_in (Some (ControlStep control)) = 0
app_in None = 0

abbrev pub app_at : List Step → (number : ℕ) → ℕ
app_at steps number = app_in (slice_get steps number)

-- The one refused call comes before the other: its application does, or that is the same, and its step does.
abbrev pub ComesBefore : List Step → RefusedCall → RefusedCall → Type 0
ComesBefore steps a b = (app_at steps a.step < app_at steps b.step) ⊎ ((app_at steps a.step ≡ app_at steps b.step) × (a.step < b.step))

-- What a history keeps of quotas, some calls of its steps being refused. With the events these are the calls of each application, each once.
pub record KeepsQuotas (quotas : List Quota) (store : Store) (records : List HistoryRecord) (steps : List Step) (refused : List RefusedCall) : Type 0 where
  -- each call leaves its application no more than it may have
  pub within : (scenario : TamperScenario) → AreAnswered store scenario records → AreWithin (limit_of quotas) (start_under store scenario) records
  pub rightly : All (IsRightlyRefused (limit_of quotas) store records steps refused) refused
  pub in_order : AllPairs (ComesBefore steps) refused

-- Without any quota no call is refused.
abbrev pub KeepsPhaseQuotas : List Quota → Store → List HistoryRecord → List Step → List RefusedCall → Type 0
KeepsPhaseQuotas [] store records steps refused = refused ≡ []
KeepsPhaseQuotas (quota ∷ quotas) store records steps refused = KeepsQuotas (quota ∷ quotas) store records steps refused

-- The quotas commit no more objects than a store has room for.
abbrev pub AreRoomFor : List Quota → (applications : List (List ℕ)) → ObjectMap → Type 0
AreRoomFor [] applications objects = Unit {0}
AreRoomFor (quota ∷ quotas) applications objects = committed_objects (limit_of (quota ∷ quotas)) (distinct_apps applications) objects ≤ most_objects

-- Memory ran out: so much holds of the calls that were admitted, whichever were refused. Without any quota that is all.
pub record HoldsOfAdmitted (quotas : List Quota) (steps : List Step) (Holds : List Step → Type 0) : Type 0 where
  pub refused : List RefusedCall
  pub unrefused : quotas ≡ [] → refused ≡ []
  pub holds : Holds (admitted refused steps)
