use Rattle.call_steps.proofs.RisesApart.{rising-bounded}
use Rattle.call_steps.proofs.count_laws.rising_counts_are_bounded.Goals as goal

pub returns : goal.returns
returns c = rising-bounded
