-- What a served call is answered, and what it leaves of the history: at most the landing of the commit that was in doubt, and then the call.
use Rattle.std.specs.Prelude.{Err, Ok, Option, Result, [], length, true, ℕ, ◌++◌, ◌∷◌, ◌≡◌, None}
use Rattle.store_model.specs.declared.event.Mark.TheVariants.{Unchanged}
use Rattle.call_steps.specs.CallerSessions.{CallerSession}
use Rattle.disk_model.specs.State.{FileState}
use Rattle.call_steps.specs.SessionEvents.{Appends, IsWaiting}
use Rattle.hmac_keys.specs.KeyTable.{rpmb_key}
use Rattle.call_steps.specs.declared.PlacedReply.{PlacedReply}
use Rattle.call_steps.specs.GuardedGates.{GuardedGateValue}
use Rattle.rpmb_card.specs.Port.{PortState}
use Rattle.call_steps.specs.Devices.{AccusesRightly, CostsDoubt, DevicesGoOn}
use Rattle.call_steps.specs.Slots.{AreOfObjectFiles, AreSlots}
use Rattle.call_steps.specs.Rising.{Serving, devices_in}
use Rattle.call_steps.specs.EventCounts.{events_at, landing_events}
use Rattle.store_model.specs.declared.event.Event.TheVariants.{Call as CallEvent}
use Rattle.store_model.specs.declared.event.Mark.{Mark}
use Rattle.store_model.specs.Files.{is_misuse}
use Rattle.history_seats.specs.Changes.{with_record, call_record}
use Rattle.serial_calls.specs.HeldFiles.{KeepsHolds}
use Rattle.core_laws.specs.Stores.{Store}
use Rattle.tee_types.specs.declared.call.Call.{Call}

-- The history goes on, where a commit in doubt landed with its landing, and then with the session's next event, at that place.
pub record GoesOnWith {F R E : Type 0} (store : Store) (old new : GuardedGateValue F R) (was now : CallerSession E) (call : Call) (answer : PlacedReply) : Type 0 where
  pub landed : Option ℕ
  pub mark : Mark
  pub appends : Appends store was now call answer mark
  pub place : answer.place ≡ length (events_at old ++ landing_events landed)
  pub events : events_at new ≡ (events_at old ++ landing_events landed) ++ CallEvent was.number was.made call answer.reply mark ∷ []

-- The session has no event more; a commit in doubt may have landed.
pub record GoesOnWithout {F R E : Type 0} (store : Store) (old new : GuardedGateValue F R) (was now : CallerSession E) : Type 0 where
  pub landed : Option ℕ
  pub waits : IsWaiting store was now
  pub events : events_at new ≡ events_at old ++ landing_events landed

module _ {F R E : Type 0} (of_file : F → FileState) (of_port : R → PortState) (draws : E → ℕ) where
  -- A device that the reply accuses counted a fault in the call, and the reply carries its count. A frame, or a result of the card, is told
  -- only where no card is that has the key, and a doubt over such a card cost two counts.
  pub record IsAnswered (store : Store) (old new : Serving F R E) (call : Call) (answer : PlacedReply) : Type 0 where
    pub goes_on : GoesOnWith store old.gate new.gate old.session new.session call answer
    pub accuses : AccusesRightly (rpmb_key store.keys.huk) (devices_in of_file of_port draws old) (devices_in of_file of_port draws new) answer.reply
    pub costs : CostsDoubt (rpmb_key store.keys.huk) (devices_in of_file of_port draws old) (devices_in of_file of_port draws new) goes_on.mark answer.reply

  abbrev pub IsAnsweredOrNot : {X : Type 0} → Store → (old new : Serving F R E) → Call → Result PlacedReply X → Type 0
  IsAnsweredOrNot store old new call (Ok answer) = IsAnswered store old new call answer
  IsAnsweredOrNot store old new call (Err none) = GoesOnWithout store old.gate new.gate old.session new.session

  -- What a call leaves.
  pub record ServesCall {X : Type 0} (store : Store) (old new : Serving F R E) (call : Call) (result : Result PlacedReply X) : Type 0 where
    pub answers : IsAnsweredOrNot store old new call result
    pub slots : AreSlots new.slots
    pub tagged : AreOfObjectFiles old.gate.journal.knows.all → AreOfObjectFiles new.gate.journal.knows.all
    -- no session holds a file but for a commit in doubt, where none did before
    pub held : KeepsHolds old.gate.gate new.gate.gate
    pub devices : DevicesGoOn (rpmb_key store.keys.huk) (devices_in of_file of_port draws old) (devices_in of_file of_port draws new)

module _ {F R E : Type 0} where
  -- Room may have been made at the gate. Else it is as it was, with the directory, the card and the doubt, and so are
  -- the slots with their files, and the session's generator.
  pub record AreLetBe (old new : Serving F R E) : Type 0 where
    pub gate : new.gate.gate ≡ record old.gate.gate { open_handles = new.gate.gate.open_handles; room = new.gate.gate.room }
    pub closing : new.gate.closing ≡ old.gate.closing
    pub slots : new.slots ≡ old.slots
    pub entropy : new.session.entropy ≡ old.session.entropy

  -- The call was answered with a misuse, as the next event. No device was used, and a commit in doubt stays so.
  pub record IsAnsweredAtOnce (old new : Serving F R E) (call : Call) (answer : PlacedReply) : Type 0 where
    pub let_be : AreLetBe old new
    pub misuse : is_misuse answer.reply ≡ true
    pub place : answer.place ≡ length old.gate.journal.knows.all
    pub knows : new.gate.journal.knows ≡ with_record (call_record old.session.number old.session.made call answer.reply Unchanged None) old.gate.journal.knows

  -- That, or memory ran out before anything was done.
  abbrev pub AnswersAtOnce : {X : Type 0} → (old new : Serving F R E) → Call → Result PlacedReply X → Type 0
  AnswersAtOnce old new call (Ok answer) = IsAnsweredAtOnce old new call answer
  AnswersAtOnce old new call (Err none) = AreLetBe old new × (new.gate.journal.knows ≡ old.gate.journal.knows)
