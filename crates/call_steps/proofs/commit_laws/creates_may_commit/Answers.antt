-- The lemma is the law.
use Rattle.call_steps.proofs.Creates.{creates_commit}
use Rattle.call_steps.proofs.commit_laws.creates_may_commit.Goals as goal

pub returns : goal.returns
returns g c = creates_commit g.row.F.Denot g.row.R.Denot g.row.E.Denot
