-- What is answered to a change of an object's data where no commit can follow, and what it leaves.
use Rattle.std.specs.Prelude.{ℕ, ◌≡◌}
use Rattle.call_steps.specs.AnswerCauses.{HasToldCause}
use Rattle.call_steps.specs.CallerSessions.{CallerSession}
use Rattle.call_steps.specs.FileAnswers.{IsFileAnswer}
use Rattle.call_steps.specs.GuardedGates.{GuardedGateValue}
use Rattle.call_steps.specs.SlotValues.{SlotValue}
use Rattle.call_steps.specs.Devices.{file_in}
use Rattle.call_steps.specs.Rising.{Serving}
use Rattle.core_laws.specs.Stores.{Store}
use Rattle.disk_model.specs.Calls.{Rests}
use Rattle.disk_model.specs.State.{FileState}
use Rattle.history_seats.specs.Records.{Version}
use Rattle.serial_calls.specs.ChangeReplies.{IsNotDone}
use Rattle.serial_calls.specs.ChangeStaging.{DataCall}
use Rattle.tee_types.specs.declared.reply.Reply.{Reply}

-- The file of the version's object gave what the change has to know, and the reply is that the counter is spent; or it says why the file did
-- not give it.
pub record ChecksChange (store : Store) (was : FileState) (slot : SlotValue) (v : Version) (asked : DataCall) (reply : Reply) : Type 0 where
  pub kind : IsNotDone reply
  pub answers : (handle : ℕ) → IsFileAnswer store slot.file slot.number v asked.position (asked.call handle) reply
  pub cause : HasToldCause was slot.file slot.number reply

-- The object's file was only read, nothing was drawn, and of the gate at most the table of open handles changed: directory and card were not
-- asked.
pub record IsOnlyRead {F R E : Type 0} (old new : GuardedGateValue F R) (from to : FileState) (was now : CallerSession E) : Type 0 where
  pub gate : new.gate ≡ record old.gate { open_handles = new.gate.open_handles }
  pub file : Rests from to
  pub entropy : now.entropy ≡ was.entropy

-- The same of a store that served the call. Room may have been made at the gate.
pub record AreOnlyRead {F R E : Type 0} (old new : Serving F R E) : Type 0 where
  pub gate : new.gate.gate ≡ record old.gate.gate { open_handles = new.gate.gate.open_handles; room = new.gate.gate.room }
  pub files : (number : ℕ) → Rests (file_in old.slots number) (file_in new.slots number)
  pub entropy : new.session.entropy ≡ old.session.entropy
