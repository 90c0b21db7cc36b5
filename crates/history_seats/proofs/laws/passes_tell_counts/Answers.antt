use Rattle.history_seats.proofs.Numbering.{count-begins}
use Rattle.history_seats.proofs.laws.passes_tell_counts.Goals as goal

pub returns : goal.returns
returns c = λ gate pass fits. count-begins pass.session pass.seen gate.all fits.sees.begins
