-- The lemma is the law.
use Rattle.call_steps.proofs.WriteCommits.{writes_commit}
use Rattle.call_steps.proofs.commit_laws.writes_may_commit.Goals as goal

pub returns : goal.returns
returns g c = writes_commit g.row.F.Denot g.row.R.Denot g.row.E.Denot
