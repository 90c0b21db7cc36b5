-- What a session keeps of its application's limit, while it makes its calls of a phase.
use Rattle.std.specs.Prelude.{◌≡◌, ◌++◌, ◌<◌, ℕ, All, AllPairs, List, length, map, slice_get, slice_index_or, take, Option, Some, None}
use Rattle.std.specs.List.{flat_map}
use Rattle.std.proofs.Common.{Vec, Global}
use Rattle.app_quota.specs.Limits.{Limits}
use Rattle.core_laws.specs.Stores.{Store}
use Rattle.history_seats.specs.Records.{HistoryRecord}
use Rattle.script_text.specs.declared.script.Step.{Step}
use Rattle.script_text.specs.declared.script.Step.TheVariants.{Call as CallStep}
use Rattle.quota_store.specs.Attempts.{IsAnswered}
use Rattle.quota_store.specs.SessionEvents.{IsWaiting}
use Rattle.quota_store.specs.CallerSessions.{CallerSession, IsCallerOf}
use Rattle.quota_store.specs.QuotaCallers.{HasKeptLimits, IsBeyondAt}
use Rattle.quota_store.specs.declared.PlacedReply.{PlacedReply}
use Rattle.store_model.specs.History.{calls_of}
use Rattle.store_model.specs.Record.{events_of}
use Rattle.tee_types.specs.declared.call.Call.{Call}
use Rattle.run_acts.specs.declared.refused_call.RefusedCall.{RefusedCall}
use Rattle.run_acts.specs.OwnCalls.{own_calls}
use Rattle.run_acts.specs.QuotaRefusals.{IsBeyondBehind, admitted}
use Rattle.run_acts.specs.Seen.{seen_by}
use Rattle.run_acts.specs.ServedSteps.{calls_in}

-- the refused call is one of that application
abbrev pub IsCallOf : List Step → (app : ℕ) → RefusedCall → Type 0
IsCallOf steps app r = (call : Call) × (slice_get steps r.step ≡ Some (CallStep app call))

-- A session's call is its next event; or it was refused rightly, where so many events stood.
abbrev pub EndsWithin : {E : Type 0} → Store → Limits → (was now : CallerSession E) → Call → (refused : Option ℕ) → Type 0
EndsWithin store limits was now call None = (answer : PlacedReply) × IsAnswered store was now call answer
EndsWithin store limits was now call (Some place) = IsWaiting store was now × IsBeyondAt store limits now call place

-- So it is, and the calls of the session are within the limits still.
pub record CallsWithin {E : Type 0} (store : Store) (limits : Limits) (was now : CallerSession E) (call : Call) (refused : Option ℕ) : Type 0 where
  pub ends : EndsWithin store limits was now call refused
  pub kept : HasKeptLimits store limits was → HasKeptLimits store limits now

-- The session's call of a step was refused rightly, where a front of what it saw stood: it would have left the application more than that may
-- have, and of the session's calls just those stood there that it had, and those of the earlier steps that were admitted.
pub record WasRefused {E : Type 0} (store : Store) (limits : Limits) (steps : List Step) (was now : CallerSession E) (refused : List RefusedCall) (r : RefusedCall) : Type 0 where
  pub call : Call
  pub is : slice_get steps r.step ≡ Some (CallStep was.number call)
  pub front : List HistoryRecord
  pub rest : List HistoryRecord
  pub begins : front ++ rest ≡ seen_by now.pass
  pub place : r.place ≡ length front
  pub beyond : IsBeyondBehind store limits front was.number call
  pub between : calls_of was.number (events_of front) ≡ own_calls was ++ calls_in was.number (admitted refused (take r.step steps))

-- The session made its calls of these steps within the limits: in its view those that were admitted stand behind those that it had, and each
-- other was refused rightly.
pub record KeepsLimitsOver {E : Type 0} (store : Store) (limits : Limits) (steps : List Step) (was now : CallerSession E) (refused : List RefusedCall) : Type 0 where
  pub caller : IsCallerOf store now
  pub number : now.number ≡ was.number
  pub calls_are : own_calls now ≡ own_calls was ++ calls_in was.number (admitted refused steps)
  pub kept : HasKeptLimits store limits was → HasKeptLimits store limits now
  pub rightly : All (WasRefused store limits steps was now refused) refused
  pub rising : AllPairs (λ a b. a.step < b.step) refused

-- So did each session, each with the calls of its own that were refused.
abbrev pub KeepLimitsOver : {E : Type 0} → Store → Limits → List Step → (was now : List (CallerSession E)) → List (List RefusedCall) → Type 0
KeepLimitsOver {E} store limits steps was now refused =
    (i : ℕ) (d : CallerSession E) (none : List RefusedCall) → i < length was
    → KeepsLimitsOver store limits steps (slice_index_or was i d) (slice_index_or now i d) (slice_index_or refused i none)

-- the lists of refused calls, and all of them, those of the first application first
abbrev pub lists_in : List (Vec RefusedCall Global) → List (List RefusedCall)
lists_in refused = map (λ calls. calls.items) refused

abbrev pub all_in : List (List RefusedCall) → List RefusedCall
all_in refused = flat_map (λ calls. calls) refused
