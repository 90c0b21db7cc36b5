use Rattle.call_steps.proofs.RisesApart.{rising-above}
use Rattle.call_steps.proofs.count_laws.rising_counts_are_above.Goals as goal

pub returns : goal.returns
returns c = rising-above
