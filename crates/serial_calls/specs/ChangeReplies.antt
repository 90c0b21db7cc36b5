-- Replies to calls that change an object's data.
use Rattle.std.specs.Prelude.{ℕ, None, Option, Some, Result, Ok, Err}
use Rattle.call_steps.specs.declared.SlotFault.{SlotFault}
use Rattle.call_steps.specs.declared.SlotFault.TheVariants.{Corrupt as IsCorrupt, Failed, NoEntropy, NoMemory}
use Rattle.tee_types.specs.declared.reply.Cause.TheVariants.{Fault}
use Rattle.tee_types.specs.declared.reply.Device.TheVariants.{Entropy, File}
use Rattle.tee_types.specs.declared.reply.Reply.{Reply}
use Rattle.tee_types.specs.declared.reply.Reply.TheVariants.{Corrupt, CounterSpent, Done, NotAvailable, Refused}
use Rattle.rpmb_card.specs.Protocol.{last_counter}
use Rattle.call_steps.specs.FileFaults.{reply_of_fault}

-- the call is done, or refused by a return code
abbrev pub IsDoneOrRefused : Reply → Type 0
IsDoneOrRefused Done = Unit {0}
IsDoneOrRefused (Refused code) = Unit {0}
IsDoneOrRefused _ = ⊥

-- nothing was done, for damage or for a device
abbrev pub IsFailure : Reply → Type 0
IsFailure Corrupt = Unit {0}
IsFailure (NotAvailable cause) = Unit {0}
IsFailure _ = ⊥

-- or since no commit can follow
abbrev pub IsNotDone : Reply → Type 0
IsNotDone (CounterSpent last) = Unit {0}
IsNotDone reply = IsFailure reply

-- what a change of the object in that file is answered where the blocks that it needs were only read; or it is not answered
abbrev pub reply_of_check : {A : Type 0} → (file : ℕ) → Result A SlotFault → Option Reply
reply_of_check file (Ok done) = Some (CounterSpent last_counter)
reply_of_check file (Err fault) = reply_of_fault file fault

-- what a change of the object in that file is answered that was not staged; or it is not answered
abbrev pub reply_of_stage : (file : ℕ) → SlotFault → Option Reply
reply_of_stage file IsCorrupt = Some Corrupt
reply_of_stage file (Failed count) = Some (NotAvailable (Fault (File file) count))
reply_of_stage file (NoEntropy count) = Some (NotAvailable (Fault Entropy count))
reply_of_stage file NoMemory = None
