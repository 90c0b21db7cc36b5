-- The lemma is the law.
use Rattle.call_steps.proofs.NameCommits.{renames_commit}
use Rattle.call_steps.proofs.commit_laws.renames_may_commit.Goals as goal

pub returns : goal.returns
returns g c = renames_commit g.row.F.Denot g.row.R.Denot g.row.E.Denot
