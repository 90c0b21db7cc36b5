use Rattle.history_seats.proofs.OpenDoubts.{doubt-opens}
use Rattle.history_seats.proofs.laws.doubts_open.Goals as goal

pub returns : goal.returns
returns c = doubt-opens
