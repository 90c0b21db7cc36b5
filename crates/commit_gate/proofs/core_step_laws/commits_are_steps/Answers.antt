use Rattle.commit_gate.proofs.CommitSteps.{commits_are_steps}
use Rattle.commit_gate.proofs.core_step_laws.commits_are_steps.Goals as goal

pub returns : goal.returns
returns c = commits_are_steps
