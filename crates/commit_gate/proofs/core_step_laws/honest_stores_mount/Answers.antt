use Rattle.commit_gate.proofs.ClosedStores.{honest_stores_mount}
use Rattle.commit_gate.proofs.core_step_laws.honest_stores_mount.Goals as goal

pub returns : goal.returns
returns c = honest_stores_mount
