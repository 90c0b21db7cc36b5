use Rattle.card_maps.proofs.Flips.{clears}
use Rattle.card_maps.proofs.laws.map_writes_clear.Goals as goal

pub returns : goal.returns
returns c = clears
