use Rattle.freshness_laws.proofs.Stores.{stores_agree}
use Rattle.freshness_laws.proofs.laws.seen_stores_agree.Goals as goal

pub returns : goal.returns
returns c = stores_agree
