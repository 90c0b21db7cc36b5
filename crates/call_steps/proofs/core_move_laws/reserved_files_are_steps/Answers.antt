use Rattle.call_steps.proofs.Holding.{reserved_files_are_steps}
use Rattle.call_steps.proofs.core_move_laws.reserved_files_are_steps.Goals as goal

pub returns : goal.returns
returns g c = reserved_files_are_steps g.row.F.Denot g.row.R.Denot
