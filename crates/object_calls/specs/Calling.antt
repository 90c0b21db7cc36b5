-- What a call of a served store is answered.
use Rattle.std.specs.Prelude.{None, Option, Result, Some, ℕ, ◌≡◌}
use Rattle.serial_calls.specs.CallerSessions.{CallerSession}
use Rattle.disk_model.specs.State.{FileState}
use Rattle.hmac_keys.specs.KeyTable.{rpmb_key}
use Rattle.object_calls.specs.Services.{ServiceValue}
use Rattle.rpmb_card.specs.Port.{PortState}
use Rattle.serial_calls.specs.ServedAnswers.{AreLetBe, GoesOnWithout, IsAnswered, IsAnsweredAtOnce, IsAnsweredOrNot}
use Rattle.serial_calls.specs.HeldFiles.{KeepsHolds}
use Rattle.serial_calls.specs.Devices.{DevicesGoOn}
use Rattle.serial_calls.specs.Rising.{Serving, devices_in}
use Rattle.core_laws.specs.Stores.{Store}
use Rattle.serial_calls.specs.declared.PlacedReply.{PlacedReply}
use Rattle.tee_types.specs.declared.call.Call.{Call}
use Rattle.tee_types.specs.declared.reply.Reply.{Reply}
use Rattle.tee_types.specs.declared.reply.Reply.TheVariants.{NoMemory}

-- the service while it serves that session's call
abbrev pub serving : {F R E : Type 0} → ServiceValue F R → CallerSession E → Serving F R E
serving s caller = record { gate = s.gate; slots = s.slots; session = caller }

module _ {F R E : Type 0} (of_file : F → FileState) (of_port : R → PortState) (draws : E → ℕ) where
  -- at a place the session's next event stands, with the reply; without one memory ran out
  abbrev pub AnswersAt : Store → (old new : Serving F R E) → Call → (place : Option ℕ) → Reply → Type 0
  AnswersAt store old new call (Some place) reply = IsAnswered of_file of_port draws store old new call (record { place = place; reply = reply })
  AnswersAt store old new call None reply = (reply ≡ NoMemory) × GoesOnWithout store old.gate new.gate old.session new.session

  -- What a call leaves of the service, of its devices and of its session.
  pub record AnswersCall (store : Store) (old new : ServiceValue F R) (was now : CallerSession E) (call : Call) (place : Option ℕ) (reply : Reply) : Type 0 where
    pub at : AnswersAt store (serving old was) (serving new now) call place reply
    pub devices : DevicesGoOn (rpmb_key store.keys.huk) (devices_in of_file of_port draws (serving old was)) (devices_in of_file of_port draws (serving new now))
    -- no session holds a file but for a commit in doubt, where none did before
    pub held : KeepsHolds old.gate.gate new.gate.gate
    pub storage_key : new.storage_key ≡ old.storage_key
    pub spare : new.spare ≡ old.spare

  -- So where it was served under a quota, if it was answered. One that was not has no event.
  pub record AnswersWithin {X : Type 0} (store : Store) (old new : ServiceValue F R) (was now : CallerSession E) (call : Call) (result : Result PlacedReply X) : Type 0 where
    pub at : IsAnsweredOrNot of_file of_port draws store (serving old was) (serving new now) call result
    pub devices : DevicesGoOn (rpmb_key store.keys.huk) (devices_in of_file of_port draws (serving old was)) (devices_in of_file of_port draws (serving new now))
    -- no session holds a file but for a commit in doubt, where none did before
    pub held : KeepsHolds old.gate.gate new.gate.gate
    pub storage_key : new.storage_key ≡ old.storage_key
    pub spare : new.spare ≡ old.spare

-- A misuse was answered at once; or memory ran out before anything was done.
abbrev pub AnswersAtOnceAt : {F R E : Type 0} → (old new : Serving F R E) → Call → (place : Option ℕ) → Reply → Type 0
AnswersAtOnceAt old new call (Some place) reply = IsAnsweredAtOnce old new call (record { place = place; reply = reply })
AnswersAtOnceAt old new call None reply = AreLetBe old new × (new.gate.journal.knows ≡ old.gate.journal.knows)
