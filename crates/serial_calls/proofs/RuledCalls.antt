-- A call on an object that the rules answered, as a call that is served.
use Rattle.std.proofs.Common.{◌≡◌, ℕ, List, Ok, refl, ap, inl, None}
use Rattle.history_seats.specs.Changes.{call_record}
use Rattle.call_steps.specs.CallerSessions.{CallerSession}
use Rattle.call_rules.specs.Plain.{IsPlain}
use Rattle.disk_model.specs.State.{FileState}
use Rattle.disk_model.proofs.Goings.{goes_on_none}
use Rattle.call_steps.specs.GateServed.{IsServed}
use Rattle.history_seats.specs.Views.{GateView}
use Rattle.hmac_keys.specs.KeyTable.{rpmb_key}
use Rattle.call_steps.specs.declared.PlacedReply.{PlacedReply}
use Rattle.call_steps.specs.GuardedGates.{GuardedGateValue}
use Rattle.call_steps.specs.SlotValues.{SlotValue}
use Rattle.rpmb_card.specs.Port.{PortState}
use Rattle.store_model.specs.declared.event.Mark.TheVariants.{Unchanged}
use Rattle.core_laws.specs.Stores.{Store}
use Rattle.tee_types.specs.declared.call.Call.{Call}
use Rattle.tee_types.specs.declared.reply.Reply.{Reply}
use Rattle.tee_types.specs.declared.reply.Reply.TheVariants.{NotAvailable}
use Rattle.serial_calls.specs.Appended.{AppendsCall}
use Rattle.call_steps.specs.Devices.{AccusesRightly, Devices, file_in}
use Rattle.call_steps.specs.Slots.{AreSlots}
use Rattle.serial_calls.specs.ServeReplay.{ServesObject}
use Rattle.call_steps.specs.Rising.{devices_in}
use Rattle.serial_calls.proofs.CommittedCalls.{none_some}
use Rattle.serial_calls.proofs.ToldCalls.{GatesGoOn, quiet_goes_on, quiet_holds}

-- the event has no tag
unfoldable pub ruled_appends : {F R E : Type 0} (store : Store) (old new : GuardedGateValue F R) (was now : CallerSession E) (call : Call) (answer : PlacedReply) → IsServed store call answer old new was now
    → AppendsCall store old new was now call answer
ruled_appends store old new was now call answer s = record {
  mark = Unchanged;
  appends = s.appends;
  place = s.place;
  last = call_record was.number was.made call answer.reply Unchanged None;
  event = refl;
  tagged = λ file is. absurd (none_some file is);
  all = ap (λ (k : GateView). k.all) s.knows;
}

pub plain_accuses : (key : List ℕ) (d0 d1 : Devices) (reply : Reply) → IsPlain reply → AccusesRightly key d0 d1 reply
plain_accuses key d0 d1 (NotAvailable cause) is = absurd is
plain_accuses key d0 d1 reply is = tt

pub ruled_serves : {F R E : Type 0} (of_file : F → FileState) (of_port : R → PortState) (draws : E → ℕ) (store : Store) (old new : GuardedGateValue F R) (slots : List SlotValue) (was now : CallerSession E)
    (call : Call) (answer : PlacedReply) (X : Type 0) → IsServed store call answer old new was now → IsPlain answer.reply → now.entropy ≡ was.entropy → AreSlots slots
    → ServesObject of_file of_port draws {X = X} store (record { gate = old; slots = slots; session = was }) (record { gate = new; slots = slots; session = now }) call (Ok answer)
unfolding ruled_appends
ruled_serves of_file of_port draws store old new slots was now call answer X s plain entropy are =
    let d0 : Devices = devices_in of_file of_port draws (record { gate = old; slots = slots; session = was }) in
    let d1 : Devices = devices_in of_file of_port draws (record { gate = new; slots = slots; session = now }) in
    let gates : GatesGoOn of_file of_port draws (rpmb_key store.keys.huk) old.gate new.gate was now =
    quiet_goes_on of_file of_port draws (rpmb_key store.keys.huk) old.gate new.gate was now s.gate (inl (ap draws entropy)) in
    record {
      answers = record {
        appends = ruled_appends store old new was now call answer s;
        accuses = plain_accuses (rpmb_key store.keys.huk) d0 d1 answer.reply plain;
        costs = tt;
      };
      slots = are;
      held = quiet_holds old.gate new.gate s.gate;
      devices = record { dir = gates.dir; file = λ n. goes_on_none (file_in slots n); card = gates.card; draws = gates.drawn };
    }
