use Rattle.card_maps.proofs.CardWrites.{flip_card}
use Rattle.card_maps.proofs.laws.map_card_writes_flip.Goals as goal

pub returns : goal.returns
returns c = flip_card
