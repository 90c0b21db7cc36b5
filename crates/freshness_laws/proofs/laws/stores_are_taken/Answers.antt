use Rattle.freshness_laws.proofs.Takings.{stores_taken}
use Rattle.freshness_laws.proofs.laws.stores_are_taken.Goals as goal

pub returns : goal.returns
returns c = stores_taken
