use Rattle.object_slots.proofs.FrontLaws.{loaded_have_fronts}
use Rattle.object_slots.proofs.slot_laws.loaded_have_fronts.Goals as goal

pub returns : goal.returns
returns c = loaded_have_fronts
