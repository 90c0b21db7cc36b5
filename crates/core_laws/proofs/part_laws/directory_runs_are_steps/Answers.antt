use Rattle.core_laws.proofs.DirectoryRuns.{directory_runs_are_steps}
use Rattle.core_laws.proofs.part_laws.directory_runs_are_steps.Goals as goal

pub returns : goal.returns
returns c = directory_runs_are_steps
