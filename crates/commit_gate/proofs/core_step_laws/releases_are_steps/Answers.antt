use Rattle.commit_gate.proofs.ReserveSteps.{releases_are_steps}
use Rattle.commit_gate.proofs.core_step_laws.releases_are_steps.Goals as goal

pub returns : goal.returns
returns c = releases_are_steps
