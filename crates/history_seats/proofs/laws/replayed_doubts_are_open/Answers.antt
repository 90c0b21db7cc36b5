use Rattle.history_seats.proofs.OpenDoubts.{replayed-open}
use Rattle.history_seats.proofs.laws.replayed_doubts_are_open.Goals as goal

pub returns : goal.returns
returns c = replayed-open
