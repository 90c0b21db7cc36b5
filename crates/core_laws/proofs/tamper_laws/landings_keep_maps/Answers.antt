use Rattle.core_laws.proofs.MapSteps.{landing_keeps}
use Rattle.core_laws.proofs.tamper_laws.landings_keep_maps.Goals as goal

pub returns : goal.returns
returns c = landing_keeps
