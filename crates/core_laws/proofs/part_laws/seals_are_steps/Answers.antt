use Rattle.core_laws.proofs.GateStepLaws.{seal_is_step}
use Rattle.core_laws.proofs.part_laws.seals_are_steps.Goals as goal

pub returns : goal.returns
returns c = seal_is_step
