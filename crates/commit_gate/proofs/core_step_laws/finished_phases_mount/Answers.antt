use Rattle.commit_gate.proofs.FinishedPhases.{finished_phases_mount}
use Rattle.commit_gate.proofs.core_step_laws.finished_phases_mount.Goals as goal

pub returns : goal.returns
returns c = finished_phases_mount
