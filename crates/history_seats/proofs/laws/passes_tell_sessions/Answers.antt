use Rattle.history_seats.proofs.SessionParts.{session-told}
use Rattle.history_seats.proofs.laws.passes_tell_sessions.Goals as goal

pub returns : goal.returns
returns c = λ start gate pass fits none range due. session-told start gate pass fits none range due
