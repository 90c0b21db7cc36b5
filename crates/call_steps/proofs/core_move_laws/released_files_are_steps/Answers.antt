use Rattle.call_steps.proofs.Holding.{released_files_are_steps}
use Rattle.call_steps.proofs.core_move_laws.released_files_are_steps.Goals as goal

pub returns : goal.returns
returns g c = released_files_are_steps g.row.F.Denot g.row.R.Denot
