-- The lemma is the law.
use Rattle.call_steps.proofs.NewFiles.{new_seats}
use Rattle.call_steps.proofs.commit_laws.new_seats_are_guarded.Goals as goal

pub returns : goal.returns
returns g c = new_seats g.row.F.Denot g.row.R.Denot
