use Rattle.commit_gate.proofs.ReserveSteps.{reserves_are_steps}
use Rattle.commit_gate.proofs.core_step_laws.reserves_are_steps.Goals as goal

pub returns : goal.returns
returns c = reserves_are_steps
