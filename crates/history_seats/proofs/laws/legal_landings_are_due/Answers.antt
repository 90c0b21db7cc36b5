use Rattle.history_seats.proofs.SessionParts.{legal-due}
use Rattle.history_seats.proofs.laws.legal_landings_are_due.Goals as goal

pub returns : goal.returns
returns c = legal-due
