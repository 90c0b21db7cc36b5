use Rattle.freshness_laws.proofs.Takings.{taken_mend}
use Rattle.freshness_laws.proofs.laws.taken_stores_mend.Goals as goal

pub returns : goal.returns
returns c = taken_mend
