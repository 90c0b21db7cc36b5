use Rattle.commit_gate.proofs.RestingGates.{resting_gates_hold}
use Rattle.commit_gate.proofs.core_step_laws.resting_gates_hold.Goals as goal

pub returns : goal.returns
returns c = resting_gates_hold
