use Rattle.core_laws.proofs.CommitTies.{landed_ties}
use Rattle.core_laws.proofs.tie_laws.landings_keep_ties.Goals as goal

pub returns : goal.returns
returns c = landed_ties
