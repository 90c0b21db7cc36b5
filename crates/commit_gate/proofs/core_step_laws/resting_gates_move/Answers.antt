use Rattle.commit_gate.proofs.RestingMoves.{resting_gates_move}
use Rattle.commit_gate.proofs.core_step_laws.resting_gates_move.Goals as goal

pub returns : goal.returns
returns c = resting_gates_move
