use Rattle.store_model.proofs.KeptMaps.{calls_keep_maps as keep}
use Rattle.store_model.proofs.laws.calls_keep_maps.Goals as goal

pub returns : goal.returns
returns c = keep
