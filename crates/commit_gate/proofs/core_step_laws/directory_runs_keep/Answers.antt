use Rattle.commit_gate.proofs.CommitFacts.{directory_runs_keep}
use Rattle.commit_gate.proofs.core_step_laws.directory_runs_keep.Goals as goal

pub returns : goal.returns
returns c = directory_runs_keep
