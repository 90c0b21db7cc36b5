use Rattle.commit_gate.proofs.Ties.{ties_tell}
use Rattle.commit_gate.proofs.core_step_laws.ties_tell.Goals as goal

pub returns : goal.returns
returns c = ties_tell
