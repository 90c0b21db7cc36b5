use Rattle.commit_gate.proofs.ClosedStores.{closed_stores_mount}
use Rattle.commit_gate.proofs.core_step_laws.closed_stores_mount.Goals as goal

pub returns : goal.returns
returns c = closed_stores_mount
