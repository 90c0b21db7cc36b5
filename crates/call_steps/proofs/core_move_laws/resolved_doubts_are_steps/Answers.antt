use Rattle.call_steps.proofs.ResolveMoves.{resolved_doubts_are_steps}
use Rattle.call_steps.proofs.core_move_laws.resolved_doubts_are_steps.Goals as goal

pub returns : goal.returns
returns g c = resolved_doubts_are_steps g.row.F.Denot g.row.R.Denot
