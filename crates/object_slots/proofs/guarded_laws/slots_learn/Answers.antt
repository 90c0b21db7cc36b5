use Rattle.object_slots.proofs.Learned.{slots_learn}
use Rattle.object_slots.proofs.guarded_laws.slots_learn.Goals as goal

pub returns : goal.returns
returns c = slots_learn
