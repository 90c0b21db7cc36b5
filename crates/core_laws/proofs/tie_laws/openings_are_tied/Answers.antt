use Rattle.core_laws.proofs.Opening.{openings_tied}
use Rattle.core_laws.proofs.tie_laws.openings_are_tied.Goals as goal

pub returns : goal.returns
returns c = openings_tied
