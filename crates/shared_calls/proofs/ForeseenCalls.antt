-- What the gate keeps as a call is forecast, and what the forecast leaves of its session.
use Rattle.std.proofs.Common.{◌≡◌, [], ℕ, Err, IfErr, IfOk, IsErr, Ok, Result, refl}
use Rattle.app_totals.specs.declared.numbers.Forecast.{Forecast}
use Rattle.disk_model.specs.State.{FileState}
use Rattle.hmac_keys.specs.KeyTable.{rpmb_key}
use Rattle.rpmb_card.specs.Port.{PortState}
use Rattle.serial_calls.specs.CallerSessions.{CallerSession}
use Rattle.serial_calls.specs.Devices.{Devices, Grows, devices_of}
use Rattle.serial_calls.specs.Foreseen.{Forecasts}
use Rattle.serial_calls.specs.Gates.{DoubtStands, gate_sides}
use Rattle.serial_calls.specs.GuardedGates.{GuardedGateValue}
use Rattle.serial_calls.specs.Stores.{Store}
use Rattle.serial_calls.specs.declared.PlacedReply.{PlacedReply}
use Rattle.store_model.specs.declared.event.Mark.TheVariants.{Unchanged}
use Rattle.tee_types.specs.declared.call.Call.{Call}
use Rattle.serial_calls.specs.SessionEvents.{IsWaiting}
use Rattle.shared_calls.specs.ForeseenCalls.{EndsForecast}
use Rattle.shared_calls.specs.Kept.{KeepsGate}
use Rattle.shared_calls.specs.SharedCounts.{CarriesDraws}
use Rattle.serial_calls.proofs.WholeCalls.{precedes_accuses}
use Rattle.shared_calls.proofs.CarriedDraws.{carries-accused}
use Rattle.shared_calls.proofs.KeptCalls.{keeps-alone, keeps-left, keeps-unserved}

-- memory ran out before
pub starves-forecast : {F R E X : Type 0} (store : Store) (gate : GuardedGateValue F R) (was now : CallerSession E) (call : Call) (result : Result (Result Forecast PlacedReply) X) → IsErr result → IsWaiting store was now
    → EndsForecast store gate.journal.knows was now call result
starves-forecast store gate was now call (Ok found) is w = absurd (cc (is))
starves-forecast store gate was now call (Err none) is w = w

module _ {F R E X : Type 0} (of_file : F → FileState) (of_port : R → PortState) (draws : E → ℕ) (store : Store) (call : Call) (old new : GuardedGateValue F R) (was now : CallerSession E) (Reliable : Type 0) where
  abbrev Foreseen : Result (Result Forecast PlacedReply) X → Type 0
  Foreseen result = Forecasts of_file of_port store call old new was now Reliable (draws was.entropy) (draws now.entropy) result

  pub ends-forecast : (result : Result (Result Forecast PlacedReply) X) → Foreseen result → EndsForecast store new.journal.knows was now call result
  ends-forecast (Ok (Ok forecast)) f = record {
    waits = f.left.waits;
    sees = f.left.calm.sees;
    calm = f.calm;
    within = f.left.calm.within;
    rising = f.rising;
    place = f.place;
    told = f.told;
  }
  ends-forecast (Ok (Err answer)) s = record { early = s.1; answered = record { mark = Unchanged; appends = s.0.served.appends }; unchanged = refl }
  ends-forecast (Err none) u = u.waits

  -- what always holds of the gate, behind the making of room
  module _ (before : Devices) (first : GuardedGateValue F R) (ready : old.gate ≡ record first.gate { open_handles = old.gate.open_handles; room = old.gate.room }) (knows : old.journal.knows ≡ first.journal.knows)
      (drawn : Grows (draws was.entropy) (draws now.entropy)) (keyed : first.gate.host.key ≡ rpmb_key store.keys.huk) (stands : DoubtStands (gate_sides of_file of_port first.gate) first.gate.doubt)
      (k : KeepsGate of_file of_port store before first) where
    pub keeps-forecast : (result : Result (Result Forecast PlacedReply) X) → Foreseen result → KeepsGate of_file of_port store before new
    keeps-forecast (Ok (Ok forecast)) f = keeps-left of_file of_port store before first old new new was now ready knows refl refl f.left k
    keeps-forecast (Ok (Err answer)) s = keeps-alone of_file of_port store before draws first old new was now ready knows Reliable drawn keyed stands k call answer s.0
    keeps-forecast (Err none) u = keeps-unserved of_file of_port store before draws first old new was now ready knows Reliable drawn keyed stands k u

    -- the counts that its reply carries for the session's entropy
    pub drawn-forecast : (result : Result (Result Forecast PlacedReply) X) → Foreseen result → IfOk result (λ found. IfErr found (λ answer. CarriesDraws (draws was.entropy) (draws now.entropy) answer.reply))
    drawn-forecast (Ok (Ok forecast)) f = tt
    drawn-forecast (Ok (Err answer)) s =
        carries-accused (rpmb_key store.keys.huk) (devices_of of_file of_port first.gate [] (draws was.entropy)) (devices_of of_file of_port new.gate [] (draws now.entropy)) answer.reply
        (precedes_accuses of_file of_port draws store first old new [] was now ready knows Reliable drawn keyed stands s.0.between answer.reply s.0.precedes s.0.served.gate)
    drawn-forecast (Err none) u = tt
