use Rattle.object_slots.proofs.GiveLaws.{changes_give}
use Rattle.object_slots.proofs.slot_laws.changes_give.Goals as goal

pub returns : goal.returns
returns c = changes_give
