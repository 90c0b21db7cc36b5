-- Why a reply accuses the object's file, over two calls of the file.
use Rattle.std.proofs.Common.{◌≡◌, ℕ, None, Some, Result, Ok, Err, refl, sym, ◌∙◌, subst}
use Rattle.std.specs.Prelude.{OnErr}
use Rattle.disk_model.specs.Calls.{GoesOn}
use Rattle.disk_model.specs.Faults.{Rose}
use Rattle.disk_model.specs.State.{FileState}
use Rattle.htree_file.specs.Answers.{FileFailed, FilePassed}
use Rattle.tee_types.specs.declared.reply.Cause.TheVariants.{Fault}
use Rattle.tee_types.specs.declared.reply.Device.TheVariants.{File}
use Rattle.tee_types.specs.declared.reply.Reply.{Reply}
use Rattle.tee_types.specs.declared.reply.Reply.TheVariants.{Corrupt, NotAvailable}
use Rattle.core_laws.proofs.Mending.{none_some, some_same}
use Rattle.object_slots.specs.declared.fault.SlotFault.{SlotFault}
use Rattle.object_slots.specs.declared.fault.SlotFault.TheVariants.{Corrupt as IsCorrupt, Failed, NoEntropy, NoMemory}
use Rattle.object_slots.specs.SlotFaults.{FaultCause}
use Rattle.call_steps.specs.PlainReplies.{AccusesNone}
use Rattle.call_steps.specs.AnswerCauses.{HasToldCause}
use Rattle.call_steps.specs.FileFaults.{reply_of_fault}

-- a fault of the file is told
pub told-cause : (old new : FileState) (number : ℕ) (fault : SlotFault) (reply : Reply) → Some reply ≡ reply_of_fault number fault → FaultCause old new fault → HasToldCause old new number reply
told-cause old new number IsCorrupt reply is cause = subst (HasToldCause old new number) (sym (some_same reply Corrupt is)) cause
told-cause old new number (Failed count) reply is cause =
    subst (HasToldCause old new number) (sym (some_same reply (NotAvailable (Fault (File number) count)) is)) (refl, cause)
told-cause old new number (NoEntropy count) reply is cause = absurd (none_some reply (sym is))
told-cause old new number NoMemory reply is cause = absurd (none_some reply (sym is))

-- behind calls that passed
module _ (a b c : FileState) (passed : FilePassed a b) (goes : GoesOn a b) where
  passed-failed : (count : ℕ) → FileFailed b c count → FileFailed a c count
  passed-failed count failed = record {
    rose = subst (λ (n : ℕ). Rose n c.faults) passed.faults failed.rose;
    carried = failed.carried;
    calm = λ calm. subst (λ (n : ℕ). Rose n c.starved) passed.starved (failed.calm (goes.calm calm));
  }

  pub passed-told : (number : ℕ) (reply : Reply) → HasToldCause b c number reply → HasToldCause a c number reply
  passed-told number (NotAvailable (Fault (File n) count)) cause = (cause.0, passed-failed count cause.1)
  passed-told number (NotAvailable other) cause = absurd cause
  passed-told number reply cause = record { faults = cause.faults ∙ passed.faults; starved = cause.starved ∙ passed.starved }

-- what holds anyhow holds at an error
pub on-err : {A E : Type 0} (result : Result A E) (P : Type 0) → P → OnErr result P
on-err (Ok done) P holds = tt
on-err (Err none) P holds = holds

pub on-err-then : {A E : Type 0} (result : Result A E) (P Q : Type 0) → (P → Q) → OnErr result P → OnErr result Q
on-err-then (Ok done) P Q then holds = tt
on-err-then (Err none) P Q then holds = then holds

-- where nothing is told, no call of the file failed
pub untold-passed : (old new : FileState) (number : ℕ) (fault : SlotFault) → None ≡ reply_of_fault number fault → FaultCause old new fault → FilePassed old new
untold-passed old new number IsCorrupt is cause = absurd (none_some Corrupt is)
untold-passed old new number (Failed count) is cause = absurd (none_some (NotAvailable (Fault (File number) count)) is)
untold-passed old new number (NoEntropy count) is cause = cause
untold-passed old new number NoMemory is cause = cause

-- nor where the reply accuses none
pub bare-passed : (old new : FileState) (number : ℕ) (reply : Reply) → AccusesNone reply → HasToldCause old new number reply → FilePassed old new
bare-passed old new number (NotAvailable cause) none told = absurd none
bare-passed old new number reply none told = told
