-- The lemma is the law.
use Rattle.call_steps.proofs.SlotEnds.{commits_end}
use Rattle.call_steps.proofs.commit_laws.commits_end_slots.Goals as goal

pub returns : goal.returns
returns g c = commits_end g.row.F.Denot g.row.R.Denot g.row.E.Denot
