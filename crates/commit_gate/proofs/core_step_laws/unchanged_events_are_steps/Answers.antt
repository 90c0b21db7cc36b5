use Rattle.commit_gate.proofs.EventSteps.{unchanged_events_are_steps}
use Rattle.commit_gate.proofs.core_step_laws.unchanged_events_are_steps.Goals as goal

pub returns : goal.returns
returns c = unchanged_events_are_steps
