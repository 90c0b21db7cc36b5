use Rattle.card_maps.proofs.CardWrites.{clear_card}
use Rattle.card_maps.proofs.laws.map_card_writes_clear.Goals as goal

pub returns : goal.returns
returns c = clear_card
