use Rattle.core_laws.proofs.FinishedParts.{finish_mounts}
use Rattle.core_laws.proofs.part_laws.finish_mounts.Goals as goal

pub returns : goal.returns
returns c = finish_mounts
