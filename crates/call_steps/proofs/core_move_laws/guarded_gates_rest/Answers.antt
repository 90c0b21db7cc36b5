use Rattle.call_steps.proofs.Resting.{guarded_gates_rest}
use Rattle.call_steps.proofs.core_move_laws.guarded_gates_rest.Goals as goal

pub returns : goal.returns
returns g c = guarded_gates_rest g.row.F.Denot g.row.R.Denot
