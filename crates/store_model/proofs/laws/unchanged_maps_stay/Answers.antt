use Rattle.store_model.proofs.QuietCalls.{unchanged_maps_stay as stay}
use Rattle.store_model.proofs.laws.unchanged_maps_stay.Goals as goal

pub returns : goal.returns
returns c = stay
