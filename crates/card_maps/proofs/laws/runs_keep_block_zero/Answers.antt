use Rattle.card_maps.proofs.Blocks.{block_zero_stays}
use Rattle.card_maps.proofs.laws.runs_keep_block_zero.Goals as goal

pub returns : goal.returns
returns c = block_zero_stays
