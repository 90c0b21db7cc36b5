use Rattle.call_steps.proofs.CoreMoves.{guarded_steps_are_moves}
use Rattle.call_steps.proofs.core_move_laws.guarded_steps_are_moves.Goals as goal

pub returns : goal.returns
returns g c = guarded_steps_are_moves g.row.F.Denot g.row.R.Denot
