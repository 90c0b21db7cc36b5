-- What a call is answered where its object's file gives nothing.
use Rattle.std.specs.Prelude.{ℕ, Option, Some, None}
use Rattle.tee_types.specs.declared.reply.Cause.TheVariants.{Fault}
use Rattle.tee_types.specs.declared.reply.Device.TheVariants.{File}
use Rattle.tee_types.specs.declared.reply.Reply.{Reply}
use Rattle.tee_types.specs.declared.reply.Reply.TheVariants.{Corrupt, NotAvailable}
use Rattle.object_slots.specs.declared.fault.SlotFault.{SlotFault}
use Rattle.object_slots.specs.declared.fault.SlotFault.TheVariants.{Corrupt as IsCorrupt, Failed, NoEntropy, NoMemory}

-- that something was refused, or that the file failed; or the call is not answered
abbrev pub reply_of_fault : (file : ℕ) → SlotFault → Option Reply
reply_of_fault file IsCorrupt = Some Corrupt
reply_of_fault file (Failed count) = Some (NotAvailable (Fault (File file) count))
reply_of_fault file (NoEntropy count) = None
reply_of_fault file NoMemory = None
