use Rattle.object_slots.proofs.GiveLaws.{reads_tell}
use Rattle.object_slots.proofs.slot_laws.reads_tell.Goals as goal

pub returns : goal.returns
returns c = reads_tell
