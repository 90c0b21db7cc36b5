use Rattle.history_seats.proofs.GivenStays.{unchanged-leaves}
use Rattle.history_seats.proofs.laws.unchanged_events_leave.Goals as goal

pub returns : goal.returns
returns c = λ mounted records r unchanged right. unchanged-leaves mounted records r unchanged right
