-- What a call on an object leaves of a store that serves it.
use Rattle.std.specs.Prelude.{Err, Ok, Result, ℕ}
use Rattle.disk_model.specs.State.{FileState}
use Rattle.hmac_keys.specs.KeyTable.{rpmb_key}
use Rattle.call_steps.specs.declared.PlacedReply.{PlacedReply}
use Rattle.rpmb_card.specs.Port.{PortState}
use Rattle.serial_calls.specs.Appended.{AppendsCall, AppendsNone}
use Rattle.serial_calls.specs.HeldFiles.{KeepsHolds}
use Rattle.call_steps.specs.Devices.{AccusesRightly, CostsDoubt, DevicesGoOn}
use Rattle.call_steps.specs.Rising.{Serving, devices_in}
use Rattle.call_steps.specs.Slots.{AreSlots}
use Rattle.core_laws.specs.Stores.{Store}
use Rattle.tee_types.specs.declared.call.Call.{Call}

module _ {F R E : Type 0} (of_file : F → FileState) (of_port : R → PortState) (draws : E → ℕ) where
  -- The call was answered and appended. A device that the reply accuses counted a fault, and a doubt cost its price.
  pub record Answers (store : Store) (old new : Serving F R E) (call : Call) (answer : PlacedReply) : Type 0 where
    pub appends : AppendsCall store old.gate new.gate old.session new.session call answer
    pub accuses : AccusesRightly (rpmb_key store.keys.huk) (devices_in of_file of_port draws old) (devices_in of_file of_port draws new) answer.reply
    pub costs : CostsDoubt (rpmb_key store.keys.huk) (devices_in of_file of_port draws old) (devices_in of_file of_port draws new) appends.mark answer.reply

  -- that, or memory ran out and nothing was appended
  abbrev pub AnswersOrNot : {X : Type 0} → Store → (old new : Serving F R E) → Call → Result PlacedReply X → Type 0
  AnswersOrNot store old new call (Ok answer) = Answers store old new call answer
  AnswersOrNot store old new call (Err none) = AppendsNone store old.gate new.gate old.session new.session

  -- What a call on an object leaves: so much of it, whole slots, no file that is held but for a commit in doubt, and devices that go on.
  pub record ServesObject {X : Type 0} (store : Store) (old new : Serving F R E) (call : Call) (result : Result PlacedReply X) : Type 0 where
    pub answers : AnswersOrNot store old new call result
    pub slots : AreSlots new.slots
    pub held : KeepsHolds old.gate.gate new.gate.gate
    pub devices : DevicesGoOn (rpmb_key store.keys.huk) (devices_in of_file of_port draws old) (devices_in of_file of_port draws new)
