use Rattle.core_laws.proofs.FileRuns.{file_runs_are_steps}
use Rattle.core_laws.proofs.part_laws.file_runs_are_steps.Goals as goal

pub returns : goal.returns
returns c = file_runs_are_steps
