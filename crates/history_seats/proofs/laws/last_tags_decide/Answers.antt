use Rattle.history_seats.proofs.Givens.{version-last}
use Rattle.history_seats.proofs.laws.last_tags_decide.Goals as goal

pub returns : goal.returns
returns c = version-last
