-- Why the reply to a call that draws nothing accuses the object's file, or does not.
use Rattle.std.specs.Prelude.{◌≡◌, ℕ}
use Rattle.disk_model.specs.State.{FileState}
use Rattle.htree_file.specs.Answers.{FileFailed, FilePassed}
use Rattle.tee_types.specs.declared.reply.Cause.{Cause}
use Rattle.tee_types.specs.declared.reply.Cause.TheVariants.{Fault}
use Rattle.tee_types.specs.declared.reply.Device.TheVariants.{File}
use Rattle.tee_types.specs.declared.reply.Reply.{Reply}
use Rattle.tee_types.specs.declared.reply.Reply.TheVariants.{NotAvailable}

-- the cause carries the file's count of faults, which rose
abbrev pub AccusesFile : (old new : FileState) → (number : ℕ) → Cause → Type 0
AccusesFile old new number (Fault (File n) count) = (n ≡ number) × FileFailed old new count
AccusesFile old new number cause = ⊥

-- no other reply comes where the file failed
abbrev pub HasToldCause : (old new : FileState) → (number : ℕ) → Reply → Type 0
HasToldCause old new number (NotAvailable cause) = AccusesFile old new number cause
HasToldCause old new number reply = FilePassed old new
