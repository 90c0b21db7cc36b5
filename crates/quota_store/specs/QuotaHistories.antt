-- A history whose calls were made under quotas, once it stands whole: what holds of it by what each session saw.
use Rattle.std.specs.Prelude.{◌≡◌, ◌<◌, ◌≤◌, ◌++◌, ℕ, All, List, length, take, Some, slice_index_or}
use Rattle.tee_types.specs.declared.call.Call.{Call}
use Rattle.tee_types.specs.declared.reply.Code.TheVariants.{NoSpace}
use Rattle.tee_types.specs.declared.reply.Reply.TheVariants.{Refused}
use Rattle.store_model.specs.Legal.{IsLegalFrom}
use Rattle.store_model.specs.LegalHistory.{opening_with}
use Rattle.store_model.specs.Record.{events_of}
use Rattle.store_model.specs.ReplayState.{ReplayState}
use Rattle.app_totals.specs.Totals.{objects_of}
use Rattle.app_quota.specs.Commitments.{committed_objects, distinct_apps}
use Rattle.app_quota.specs.Isolation.{AreWithin, IsIsolated, StayWithinEach}
use Rattle.app_quota.specs.Limits.{Limits, quota_reply}
use Rattle.history_seats.specs.Records.{HistoryRecord, IsUpToDate, is_of_session}
use Rattle.history_seats.specs.Views.{PassView, Sight}
use Rattle.core_laws.specs.Answered.{AreAnswered}
use Rattle.core_laws.specs.Stores.{Store, objects_under, phase_of, replay_at, start_under}
use Rattle.core_laws.specs.TamperScenarios.{TamperScenario}
use Rattle.core_laws.specs.TieLaws.{AreRising}
use Rattle.shared_store.specs.CallerSessions.{CallerSession, IsCallerOf}
use Rattle.shared_store.specs.Kept.{AreOfSessions}
use Rattle.shared_store.specs.QuotaCallers.{HasKeptLimits, IsBeyondAt}

-- Past what the session saw it has no event in the history, and its calls were each within what its application may have.
pub record HasKept {E : Type 0} (store : Store) (limits : Limits) (all : List HistoryRecord) (s : CallerSession E) : Type 0 where
  pub pass : Sight PassView
  pub is : s.pass ≡ Some pass
  pub begins : IsUpToDate (is_of_session s.number) pass.knows.seen all
  pub kept : HasKeptLimits store limits s

-- Each call is of one of the sessions, and each of these has kept so.
pub record HaveKept {E : Type 0} (store : Store) (limits : Limits) (all : List HistoryRecord) (sessions : List (CallerSession E)) : Type 0 where
  pub of_sessions : AreOfSessions (length sessions) (events_of all)
  pub numbered : (i : ℕ) (d : CallerSession E) → i < length sessions → (slice_index_or sessions i d).number ≡ i
  pub each : All (λ (s : CallerSession E). HasKept store limits all s) sessions

-- where the phase begins with the objects of one application alone
abbrev pub start_alone : Store → TamperScenario → List ℕ → ReplayState
start_alone store scenario app = opening_with (phase_of store) (objects_of app (objects_under store scenario))

-- A session that has no event yet has kept within any limits.
abbrev pub NewSessionsHaveKept : Type 0 → Type 0
NewSessionsHaveKept E = (store : Store) (limits : Limits) (s : CallerSession E) → IsCallerOf store s → s.made ≡ 0 → HasKeptLimits store limits s

-- Under each tamper scenario under which such a history is answered, each of its calls was within what its application may have.
abbrev pub KeptCallsAreWithin : Type 0 → Type 0
KeptCallsAreWithin E =
    (store : Store) (limits : Limits) (all : List HistoryRecord) (sessions : List (CallerSession E)) (scenario : TamperScenario)
    → HaveKept store limits all sessions → AreAnswered store scenario all → AreWithin limits (start_under store scenario) all

-- And where it is legal there, each event that raises a number of an application leaves it within its limit.
abbrev pub KeptEventsStayWithin : Type 0 → Type 0
KeptEventsStayWithin E =
    (store : Store) (limits : Limits) (all : List HistoryRecord) (sessions : List (CallerSession E)) (scenario : TamperScenario)
    → HaveKept store limits all sessions → AreAnswered store scenario all → IsLegalFrom scenario.tampered (start_under store scenario) all
    → StayWithinEach limits (start_under store scenario) all

-- And where the limits were not over-committed as the phase opened, the calls of each application are answered by its own calls alone, from
-- its own objects; or a device has the blame. The limit of 256 objects is in no reply.
abbrev pub KeptApplicationsAreIsolated : Type 0 → Type 0
KeptApplicationsAreIsolated E =
    (store : Store) (limits : Limits) (app : List ℕ) (all : List HistoryRecord) (sessions : List (CallerSession E)) (scenario : TamperScenario)
    → HaveKept store limits all sessions → AreAnswered store scenario all → IsLegalFrom scenario.tampered (start_under store scenario) all
    → AreRising store.objects → committed_objects limits (distinct_apps store.mounted.applications) store.objects ≤ 256
    → IsIsolated limits scenario.tampered app (start_under store scenario) (start_alone store scenario app) all

-- What was refused where so many events stood is what quotas refuse in the map behind them.
abbrev pub RefusedCallsStand : Type 0 → Type 0
RefusedCallsStand E =
    (store : Store) (limits : Limits) (s : CallerSession E) (call : Call) (place : ℕ) (pass : Sight PassView) (all rest : List HistoryRecord) (scenario : TamperScenario)
    → IsBeyondAt store limits s call place → s.pass ≡ Some pass → pass.knows.seen ++ rest ≡ all → AreAnswered store scenario all
    → quota_reply limits (replay_at store scenario (take place all)).state s.number call ≡ Refused NoSpace
