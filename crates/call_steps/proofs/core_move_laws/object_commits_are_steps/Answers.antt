use Rattle.call_steps.proofs.Bringing.{object_commits_are_steps}
use Rattle.call_steps.proofs.core_move_laws.object_commits_are_steps.Goals as goal

pub returns : goal.returns
returns g c = object_commits_are_steps g.row.F.Denot g.row.R.Denot g.row.E.Denot g.E.Entropy.is_reliable g.E.Entropy.faults
