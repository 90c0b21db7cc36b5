-- What keeps a commit in doubt is of the card, or of the entropy.
use Rattle.tee_types.specs.declared.call.Call.{Call}
use Rattle.tee_types.specs.declared.call.Call.TheVariants.{Create, Open, Close, Delete}
use Rattle.tee_types.specs.declared.reply.Cause.{Cause}
use Rattle.tee_types.specs.declared.reply.Reply.TheVariants.{NotAvailable}
use Rattle.commit_gate.specs.Answering.{LeavesHandles}

-- an answer that names a device, or a misuse, opens and closes no handle
pub unavailable-leaves : (call : Call) (cause : Cause) → LeavesHandles call (NotAvailable cause)
unavailable-leaves (Create id flags attributes bytes) cause = tt
unavailable-leaves (Open id flags) cause = tt
unavailable-leaves (Close handle) cause = tt
unavailable-leaves (Delete handle) cause = tt
unavailable-leaves call cause = tt
