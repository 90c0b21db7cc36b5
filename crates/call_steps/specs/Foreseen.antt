-- What a forecast of a session's call leaves at the gate.
use Rattle.std.specs.Prelude.{◌≡◌, ℕ, List, length, Result, Ok, Err}
use Rattle.std.specs.List.Sorted.{IsStrictlySortedBy}
use Rattle.std.specs.Map.{keys_of}
use Rattle.disk_model.specs.State.{FileState}
use Rattle.rpmb_card.specs.Port.{PortState}
use Rattle.tee_types.specs.declared.call.Call.{Call}
use Rattle.tee_types.specs.declared.reply.Reply.{Reply}
use Rattle.tee_types.specs.declared.reply.Reply.TheVariants.{Misuse, NotAvailable}
use Rattle.app_totals.specs.declared.numbers.Forecast.{Forecast}
use Rattle.store_model.specs.Name.{name_cmp}
use Rattle.history_seats.specs.Records.{HistoryRecord}
use Rattle.history_seats.specs.Settling.{IsOpenDoubt}
use Rattle.history_seats.specs.Views.{GateView}
use Rattle.core_laws.specs.Answered.{AreAnswered}
use Rattle.core_laws.specs.Stores.{Store, replay_at}
use Rattle.core_laws.specs.TamperScenarios.{TamperScenario}
use Rattle.commit_gate.specs.CallerSessions.{CallerSession}
use Rattle.commit_gate.specs.Forecasts.{IsForecastAt}
use Rattle.commit_gate.specs.GuardedGates.{GuardedGateValue}
use Rattle.commit_gate.specs.declared.placed_reply.PlacedReply.{PlacedReply}
use Rattle.call_steps.specs.GateServed.{IsLeft, IsServedAlone, IsUnserved}

-- The reply comes before what a call would leave is asked: it is a misuse, or it says why a commit in doubt could not be resolved.
abbrev pub IsEarly : Reply → Type 0
IsEarly (Misuse reason) = Unit {0}
IsEarly (NotAvailable cause) = Unit {0}
IsEarly _ = ⊥

-- no commit of the history may land any more
abbrev pub HasNoOpenDoubt : GateView → Type 0
HasNoOpenDoubt view = (commit : ℕ) → IsOpenDoubt commit view.decided view.all → ⊥

-- under each tamper scenario under which these records are answered the names of the machine's objects rise behind them
abbrev pub AreRisingAt : Store → List HistoryRecord → Type 0
AreRisingAt store records =
    (scenario : TamperScenario) → AreAnswered store scenario records → IsStrictlySortedBy name_cmp (keys_of (replay_at store scenario records).state.objects)

module _ {E F R : Type 0} (of_file : F → FileState) (of_port : R → PortState) (store : Store) (call : Call) (old new : GuardedGateValue F R) (before after : CallerSession E) where
  -- No commit is in doubt any more, and the session was shown so. The forecast is that of the call where the history then stands.
  pub record IsForeseen (forecast : Forecast) : Type 0 where
    pub left : IsLeft of_file of_port store old new before after
    pub calm : HasNoOpenDoubt new.journal.knows
    pub rising : AreRisingAt store new.journal.knows.all
    pub place : forecast.place ≡ length new.journal.knows.all
    pub told : IsForecastAt store new.journal.knows.all after.number call forecast

  -- so, or the gate answered the call: it is a misuse, or the commit in doubt could not be resolved; or memory ran out
  abbrev pub Forecasts : {X : Type 0} → (reliable : Type 0) → (drew draws : ℕ) → Result (Result Forecast PlacedReply) X → Type 0
  Forecasts reliable drew draws (Ok (Ok forecast)) = IsForeseen forecast
  Forecasts reliable drew draws (Ok (Err answer)) = IsServedAlone of_file of_port reliable drew draws store call answer old new before after × IsEarly answer.reply
  Forecasts reliable drew draws (Err none) = IsUnserved of_file of_port reliable drew draws store old new before after
