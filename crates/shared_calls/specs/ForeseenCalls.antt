-- What a forecast of a call leaves of its session, while other threads serve theirs.
use Rattle.std.specs.Prelude.{Err, Ok, Result, length, ◌≡◌, ◌≤◌}
use Rattle.app_totals.specs.declared.numbers.Forecast.{Forecast}
use Rattle.history_seats.specs.Views.{GateView}
use Rattle.serial_calls.specs.CallerSessions.{CallerSession}
use Rattle.serial_calls.specs.Foreseen.{AreRisingAt, HasNoOpenDoubt, IsEarly}
use Rattle.serial_calls.specs.Forecasts.{IsForecastAt}
use Rattle.serial_calls.specs.SessionViews.{SeesAll}
use Rattle.serial_calls.specs.Stores.{Store}
use Rattle.serial_calls.specs.declared.PlacedReply.{PlacedReply}
use Rattle.store_model.specs.declared.event.Mark.TheVariants.{Unchanged}
use Rattle.tee_types.specs.declared.call.Call.{Call}
use Rattle.shared_calls.specs.Attempts.{IsAnswered}
use Rattle.serial_calls.specs.SessionEvents.{IsWaiting}

module _ {E : Type 0} (store : Store) (gate : GateView) (was now : CallerSession E) (call : Call) where
  -- The session saw the whole history, of which no commit may land any more. The forecast is that of the call where it stands.
  pub record IsForeseen (forecast : Forecast) : Type 0 where
    pub waits : IsWaiting store was now
    pub sees : SeesAll gate now.pass
    pub calm : HasNoOpenDoubt gate
    pub within : gate.decided ≤ length gate.all
    pub rising : AreRisingAt store gate.all
    pub place : forecast.place ≡ length gate.all
    pub told : IsForecastAt store gate.all now.number call forecast

  -- The call is answered before, with a misuse or why a commit in doubt could not be resolved: nothing changed.
  pub record IsAnsweredEarly (answer : PlacedReply) : Type 0 where
    pub early : IsEarly answer.reply
    pub answered : IsAnswered store was now call answer
    pub unchanged : answered.mark ≡ Unchanged

  -- so by the result; or memory ran out
  abbrev pub EndsForecast : {X : Type 0} → Result (Result Forecast PlacedReply) X → Type 0
  EndsForecast (Ok (Ok forecast)) = IsForeseen forecast
  EndsForecast (Ok (Err answer)) = IsAnsweredEarly answer
  EndsForecast (Err none) = IsWaiting store was now
