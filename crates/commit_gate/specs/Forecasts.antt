-- What a session's call would find where the history stands, and what it would leave its application.
use Rattle.std.specs.Prelude.{ℕ, List}
use Rattle.tee_types.specs.declared.call.Call.{Call}
use Rattle.app_totals.specs.declared.numbers.Forecast.{Forecast}
use Rattle.app_totals.specs.Meant.{IsForecastOf}
use Rattle.history_seats.specs.Records.{HistoryRecord}
use Rattle.core_laws.specs.TamperScenarios.{TamperScenario}
use Rattle.core_laws.specs.Stores.{Store, replay_at}
use Rattle.core_laws.specs.Answered.{AreAnswered}

-- So it is behind these records, under each tamper scenario under which they are answered.
abbrev pub IsForecastAt : Store → List HistoryRecord → (session : ℕ) → Call → Forecast → Type 0
IsForecastAt store records session call forecast =
    (scenario : TamperScenario) → AreAnswered store scenario records → IsForecastOf (replay_at store scenario records).state session call forecast
