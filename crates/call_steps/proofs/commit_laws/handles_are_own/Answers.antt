-- The lemma is the law.
use Rattle.call_steps.proofs.NameCommits.{handles_own}
use Rattle.call_steps.proofs.commit_laws.handles_are_own.Goals as goal

pub returns : goal.returns
returns g c = handles_own g.row.E.Denot
