use Rattle.freshness_laws.proofs.Takings.{takings_mend}
use Rattle.freshness_laws.proofs.laws.takings_mend.Goals as goal

pub returns : goal.returns
returns c = takings_mend
