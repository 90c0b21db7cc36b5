use Rattle.commit_gate.proofs.ResolveSteps.{resolves_are_steps}
use Rattle.commit_gate.proofs.core_step_laws.resolves_are_steps.Goals as goal

pub returns : goal.returns
returns c = resolves_are_steps
