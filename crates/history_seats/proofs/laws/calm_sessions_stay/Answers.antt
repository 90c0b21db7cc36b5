use Rattle.history_seats.proofs.SessionParts.{session-stays}
use Rattle.history_seats.proofs.laws.calm_sessions_stay.Goals as goal

pub returns : goal.returns
returns c = λ start gate pass session fits none range due is. session-stays start gate pass fits none range due session is
