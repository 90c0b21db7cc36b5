use Rattle.history_seats.proofs.LearnedDoubts.{doubt-learned}
use Rattle.history_seats.proofs.laws.doubts_are_learned.Goals as goal

pub returns : goal.returns
returns c = doubt-learned
