use Rattle.core_laws.proofs.SlotRuns.{renewed_holds}
use Rattle.core_laws.proofs.part_laws.renewed_slots_hold.Goals as goal

pub returns : goal.returns
returns c = renewed_holds
