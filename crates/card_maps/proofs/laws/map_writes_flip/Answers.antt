use Rattle.card_maps.proofs.Flips.{flips}
use Rattle.card_maps.proofs.laws.map_writes_flip.Goals as goal

pub returns : goal.returns
returns c = flips
