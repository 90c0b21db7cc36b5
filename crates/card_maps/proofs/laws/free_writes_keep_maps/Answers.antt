use Rattle.card_maps.proofs.Writes.{free_keeps}
use Rattle.card_maps.proofs.laws.free_writes_keep_maps.Goals as goal

pub returns : goal.returns
returns c = free_keeps
