use Rattle.core_laws.proofs.CallSteps.{deletes_keep}
use Rattle.core_laws.proofs.tamper_laws.deletes_keep_maps.Goals as goal

pub returns : goal.returns
returns c = deletes_keep
