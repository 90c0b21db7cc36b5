use Rattle.core_laws.proofs.JoinedParts.{parts_hold}
use Rattle.core_laws.proofs.part_laws.parts_are_a_core.Goals as goal

pub returns : goal.returns
returns c = parts_hold
