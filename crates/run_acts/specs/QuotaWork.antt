-- Sessions under quotas, each of which makes its calls of a phase on a thread of its own.
use Rattle.std.specs.Prelude.{◌≡◌, ◌⊎◌, ◌<◌, ℕ, Bool, true, false, All, List, [], length, slice_index_or}
use Rattle.app_quota.specs.Limits.{Limits}
use Rattle.core_laws.specs.Stores.{Store}
use Rattle.quota_store.specs.Callers.{QuotaCaller}
use Rattle.script_text.specs.declared.script.Step.{Step}
use Rattle.quota_store.specs.CallerSessions.{CallerSession, IsCallerOf}
use Rattle.run_acts.specs.OwnCalls.{HasMade, HasStopped}
use Rattle.run_acts.specs.OwnQuotas.{IsCallOf, KeepsLimitsOver}
use Rattle.run_acts.specs.QuotaRefusals.{admitted}
use Rattle.run_acts.specs.ServedSteps.{calls_in}
use Rattle.run_acts.specs.declared.quota_worker.QuotaWorker.{QuotaWorker}
use Rattle.run_acts.specs.declared.refused_call.RefusedCall.{RefusedCall}

-- the limit is the one of the session's application
abbrev pub IsLimited : {E : Type 0} → Limits → QuotaCaller E → Type 0
IsLimited limits s = limits (s.caller).state.application ≡ s.limit

-- so is each worker's
abbrev pub AreLimited : {E : Type 0} → Limits → List (QuotaWorker E) → Type 0
AreLimited {E} limits workers = (i : ℕ) (d : QuotaWorker E) → i < length workers → IsLimited limits (slice_index_or workers i d).session

-- A worker before its first call.
pub record IsUnworked {E : Type 0} (store : Store) (w : QuotaWorker E) : Type 0 where
  pub caller : IsCallerOf store (w.session).caller
  pub unrefused : (w.refused).items ≡ []

abbrev pub AreUnworked : {E : Type 0} → Store → List (QuotaWorker E) → Type 0
AreUnworked {E} store workers = (i : ℕ) (d : QuotaWorker E) → i < length workers → IsUnworked store (slice_index_or workers i d)

module _ {E : Type 0} (is_reliable : E → Type 0) (draws : E → ℕ) (store : Store) (limits : Limits) (steps : List Step) where
  -- The session made its calls of the steps that were admitted, and kept its limits.
  pub record HasMadeWithin (was now : CallerSession E) (refused : List RefusedCall) : Type 0 where
    pub made : HasMade is_reliable draws store was now (calls_in was.number (admitted refused steps))
    pub keeps : KeepsLimitsOver store limits steps was now refused

  -- Memory ran out before it had made all of them.
  pub record HasStoppedWithin (was now : CallerSession E) (refused : List RefusedCall) : Type 0 where
    pub stopped : HasStopped store was now (calls_in was.number (admitted refused steps))
    pub own : All (IsCallOf steps was.number) refused

  abbrev pub HasWorkedTo : (done : Bool) → (was now : CallerSession E) → List RefusedCall → Type 0
  HasWorkedTo true was now refused = HasMadeWithin was now refused
  HasWorkedTo false was now refused = HasStoppedWithin was now refused

  abbrev pub HasWorked : (was now : QuotaWorker E) → Type 0
  HasWorked was now = HasWorkedTo now.done (was.session).caller (now.session).caller (now.refused).items

  abbrev pub HaveWorkedWithin : (was now : List (QuotaWorker E)) → Type 0
  HaveWorkedWithin was now = (i : ℕ) (d : QuotaWorker E) → i < length was → HasWorked (slice_index_or was i d) (slice_index_or now i d)

  -- So each session did, and has the calls of its own that were refused by its number; or memory ran out in some.
  abbrev pub HaveWorkedTo : (done : Bool) → (was now : List (CallerSession E)) → List (List RefusedCall) → Type 0
  HaveWorkedTo true was now lists =
      (i : ℕ) (d : CallerSession E) (none : List RefusedCall) → i < length was → HasMadeWithin (slice_index_or was i d) (slice_index_or now i d) (slice_index_or lists i none)
  HaveWorkedTo false was now lists =
      (i : ℕ) (d : CallerSession E) (none : List RefusedCall) → i < length was
      → HasMadeWithin (slice_index_or was i d) (slice_index_or now i d) (slice_index_or lists i none)
      ⊎ HasStoppedWithin (slice_index_or was i d) (slice_index_or now i d) (slice_index_or lists i none)

  pub record LeaveWork (done : Bool) (was now : List (CallerSession E)) (lists : List (List RefusedCall)) : Type 0 where
    pub many : length now ≡ length was
    pub listed : length lists ≡ length was
    pub worked : HaveWorkedTo done was now lists
