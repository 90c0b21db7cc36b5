use Rattle.core_laws.proofs.CommitTies.{doubtful_ties}
use Rattle.core_laws.proofs.tie_laws.doubtful_commits_keep_ties.Goals as goal

pub returns : goal.returns
returns c = doubtful_ties
