use Rattle.history_seats.proofs.GivenStays.{doubt-gives}
use Rattle.history_seats.proofs.laws.doubtful_commits_give.Goals as goal

pub returns : goal.returns
returns c = λ mounted records r tag is right doubtful. doubt-gives mounted records r tag is right doubtful
