use Rattle.core_laws.proofs.FinishedParts.{honest_finish_mounts}
use Rattle.core_laws.proofs.part_laws.honest_finish_mounts.Goals as goal

pub returns : goal.returns
returns c = honest_finish_mounts
