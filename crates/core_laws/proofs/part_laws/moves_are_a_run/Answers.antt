use Rattle.core_laws.proofs.PartMoves.{moves_are_a_run}
use Rattle.core_laws.proofs.part_laws.moves_are_a_run.Goals as goal

pub returns : goal.returns
returns c = moves_are_a_run
