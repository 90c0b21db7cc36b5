use Rattle.core_laws.proofs.CommitTies.{made_ties}
use Rattle.core_laws.proofs.tie_laws.made_commits_keep_ties.Goals as goal

pub returns : goal.returns
returns c = made_ties
