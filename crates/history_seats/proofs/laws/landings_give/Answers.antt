use Rattle.history_seats.proofs.GivenStays.{landing-gives}
use Rattle.history_seats.proofs.laws.landings_give.Goals as goal

pub returns : goal.returns
returns c = landing-gives
