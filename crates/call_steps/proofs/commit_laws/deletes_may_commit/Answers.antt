-- The lemma is the law.
use Rattle.call_steps.proofs.NameCommits.{deletes_commit}
use Rattle.call_steps.proofs.commit_laws.deletes_may_commit.Goals as goal

pub returns : goal.returns
returns g c = deletes_commit g.row.F.Denot g.row.R.Denot g.row.E.Denot
