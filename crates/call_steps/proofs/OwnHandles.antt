-- Each live handle of a session is on an object of the session's application, at all times.
use Rattle.std.proofs.Common.{◌≡◌, ℕ, List, Some}
use Rattle.app_totals.specs.OwnHandles.{HasOwnHandles}
use Rattle.app_totals.proofs.OwnHandles.{any_session_has, handle_has}
use Rattle.app_totals.proofs.ReplayedHandles.{new_own, replays_keep_own_handles}
use Rattle.core_laws.specs.Stores.{Store, replay_at, start_under}
use Rattle.core_laws.specs.TamperScenarios.{TamperScenario}
use Rattle.history_seats.specs.Records.{HistoryRecord}
use Rattle.store_model.specs.Machine.{Session, handle_at, session_at}
use Rattle.store_model.specs.declared.session.Handle.{Handle}

module _ (store : Store) (scenario : TamperScenario) (records : List HistoryRecord) (session : ℕ) where
  abbrev here : Session
  here = session_at (replay_at store scenario records).state session

  pub own_handles : HasOwnHandles here
  own_handles =
      any_session_has HasOwnHandles (replay_at store scenario records).state.sessions session tt
      (replays_keep_own_handles (start_under store scenario) records (new_own store.mounted.applications)).handles

  -- the name of a live handle is of the session's application
  pub own_name : (number : ℕ) (h : Handle) → handle_at here number ≡ Some h → h.name.app ≡ here.application
  own_name number h live = handle_has (λ x. x.name.app ≡ here.application) number here.handles h own_handles live
