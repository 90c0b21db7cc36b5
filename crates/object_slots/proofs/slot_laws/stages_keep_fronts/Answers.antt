use Rattle.object_slots.proofs.FrontLaws.{stages_keep_fronts}
use Rattle.object_slots.proofs.slot_laws.stages_keep_fronts.Goals as goal

pub returns : goal.returns
returns c = stages_keep_fronts
