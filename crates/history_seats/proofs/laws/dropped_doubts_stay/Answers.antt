use Rattle.history_seats.proofs.Givens.{doubt-stays}
use Rattle.history_seats.proofs.laws.dropped_doubts_stay.Goals as goal

pub returns : goal.returns
returns c = λ those z seen gate sees commit doubt below event is. doubt-stays z commit those seen gate.all sees.begins doubt sees.decided_below sees.decided_within below event is
