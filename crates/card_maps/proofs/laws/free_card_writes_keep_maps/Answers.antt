use Rattle.card_maps.proofs.CardWrites.{free_card}
use Rattle.card_maps.proofs.laws.free_card_writes_keep_maps.Goals as goal

pub returns : goal.returns
returns c = free_card
