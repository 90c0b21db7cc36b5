-- Why a change of an object's data was not staged, by the counts of the devices that it uses.
use Rattle.std.specs.Prelude.{ℕ, ◌≡◌}
use Rattle.serial_calls.specs.declared.stage_result.Staged.{Staged}
use Rattle.serial_calls.specs.declared.stage_result.Staged.TheVariants.{Root, Unstaged}
use Rattle.disk_model.specs.Faults.{Rose}
use Rattle.disk_model.specs.State.{FileState}
use Rattle.htree_file.specs.Answers.{FileFailed, FilePassed}
use Rattle.tee_types.specs.declared.reply.Cause.{Cause}
use Rattle.tee_types.specs.declared.reply.Cause.TheVariants.{Fault}
use Rattle.tee_types.specs.declared.reply.Device.TheVariants.{Entropy, File}
use Rattle.tee_types.specs.declared.reply.Reply.{Reply}
use Rattle.tee_types.specs.declared.reply.Reply.TheVariants.{NotAvailable}

-- The object's file of that number, from one state to another, and the session's entropy, which counted faults from `drew` to `draws`.
module _ (old new : FileState) (number : ℕ) (Reliable : Type 0) (drew draws : ℕ) where
  -- the cause carries the count of the device that failed, which rose; the other's did not; and no reliable entropy fails
  abbrev pub AccusesDevice : Cause → Type 0
  AccusesDevice (Fault (File n) count) = (n ≡ number) × FileFailed old new count × (draws ≡ drew)
  AccusesDevice (Fault Entropy count) = FilePassed old new × Rose drew draws × (count ≡ draws) × (Reliable → ⊥)
  AccusesDevice cause = ⊥

  -- no other reply comes where one of them failed
  abbrev pub HasChangeCause : Reply → Type 0
  HasChangeCause (NotAvailable cause) = AccusesDevice cause
  HasChangeCause reply = FilePassed old new × (draws ≡ drew)

  -- nor is a change staged there
  abbrev pub HasStageCause : Staged → Type 0
  HasStageCause (Root root) = FilePassed old new × (draws ≡ drew)
  HasStageCause (Unstaged reply) = HasChangeCause reply
