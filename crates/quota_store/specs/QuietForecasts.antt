-- A forecast holds on, while the sessions of its application are quiet.
use Rattle.std.specs.Prelude.{◌≡◌, ◌≤◌, ◌<◌, ◌++◌, ℕ, true, List, length}
use Rattle.std.specs.List.Sorted.{IsStrictlySortedBy}
use Rattle.std.specs.Map.{keys_of}
use Rattle.std.specs.Ordering.{is_eq}
use Rattle.tee_types.specs.Identifier.{bytes_cmp}
use Rattle.tee_types.specs.declared.call.Call.{Call}
use Rattle.store_model.specs.History.{count_of}
use Rattle.store_model.specs.Name.{name_cmp}
use Rattle.store_model.specs.Record.{events_of}
use Rattle.app_quota.specs.Limits.{Limits, is_beyond}
use Rattle.history_seats.specs.Records.{HistoryRecord}
use Rattle.history_seats.specs.Settling.{IsDecidedBelow, IsOpenDoubt}
use Rattle.core_laws.specs.Stores.{Store, replay_at}
use Rattle.core_laws.specs.TamperScenarios.{TamperScenario}
use Rattle.shared_store.specs.Kept.{AreOfSessions}
use Rattle.quota_store.specs.Halves.{app_at}

-- Behind what was seen no session of the application has an event between, and no commit from before lands: none may, by the place below
-- which each doubt is decided.
pub record AreQuiet (store : Store) (app : List ℕ) (seen : List HistoryRecord) (decided : ℕ) (between rest : List HistoryRecord) : Type 0 where
  pub sessions : AreOfSessions (length store.mounted.applications) (events_of (seen ++ between))
  pub none : (session : ℕ) → session < length store.mounted.applications → is_eq (bytes_cmp app (app_at store session)) ≡ true → count_of session (events_of between) ≡ 0
  pub calm : (commit : ℕ) → IsOpenDoubt commit decided seen → ⊥
  pub within : decided ≤ length seen
  pub later : IsDecidedBelow decided 0 (seen ++ (between ++ rest))

-- So what a call of the application would leave is the same behind them.
abbrev pub QuietForecastsHold : Type 0
QuietForecastsHold =
    (store : Store) (scenario : TamperScenario) (limits : Limits) (seen between rest : List HistoryRecord) (decided session : ℕ) (call : Call)
    → IsStrictlySortedBy name_cmp (keys_of (replay_at store scenario seen).state.objects) → session < length store.mounted.applications
    → AreQuiet store (app_at store session) seen decided between rest
    → is_beyond limits (replay_at store scenario (seen ++ between)).state session call ≡ is_beyond limits (replay_at store scenario seen).state session call
