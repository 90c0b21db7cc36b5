use Rattle.history_seats.proofs.OpenDoubts.{doubt-stays-open, doubt-was-open}
use Rattle.history_seats.proofs.laws.doubts_stay_open.Goals as goal

pub returns : goal.returns
returns c = λ commit z records r unchanged. (doubt-stays-open commit z records r unchanged, doubt-was-open commit z records r unchanged)
