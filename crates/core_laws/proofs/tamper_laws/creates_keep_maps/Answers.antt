use Rattle.core_laws.proofs.CallSteps.{creates_keep}
use Rattle.core_laws.proofs.tamper_laws.creates_keep_maps.Goals as goal

pub returns : goal.returns
returns c = creates_keep
