use Rattle.object_slots.proofs.FrontLaws.{made_have_fronts}
use Rattle.object_slots.proofs.slot_laws.made_have_fronts.Goals as goal

pub returns : goal.returns
returns c = made_have_fronts
