use Rattle.freshness_laws.proofs.Stores.{directories_agree}
use Rattle.freshness_laws.proofs.laws.seen_directories_agree.Goals as goal

pub returns : goal.returns
returns c = directories_agree
