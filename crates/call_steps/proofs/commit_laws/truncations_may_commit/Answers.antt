-- The lemma is the law.
use Rattle.call_steps.proofs.Truncations.{truncations_commit}
use Rattle.call_steps.proofs.commit_laws.truncations_may_commit.Goals as goal

pub returns : goal.returns
returns g c = truncations_commit g.row.F.Denot g.row.R.Denot g.row.E.Denot
