use Rattle.history_seats.proofs.GivenStays.{made-gives}
use Rattle.history_seats.proofs.laws.made_commits_give.Goals as goal

pub returns : goal.returns
returns c = λ mounted records r tag is right made. made-gives mounted records r tag is right made
