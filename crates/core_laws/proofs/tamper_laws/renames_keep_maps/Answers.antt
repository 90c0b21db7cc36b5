use Rattle.core_laws.proofs.CallSteps.{renames_keep}
use Rattle.core_laws.proofs.tamper_laws.renames_keep_maps.Goals as goal

pub returns : goal.returns
returns c = renames_keep
