use Rattle.core_laws.proofs.OpenedParts.{openings_hold}
use Rattle.core_laws.proofs.part_laws.openings_hold.Goals as goal

pub returns : goal.returns
returns c = openings_hold
