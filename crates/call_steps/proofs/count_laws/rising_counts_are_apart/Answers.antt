use Rattle.call_steps.proofs.RisesApart.{rising-apart}
use Rattle.call_steps.proofs.count_laws.rising_counts_are_apart.Goals as goal

pub returns : goal.returns
returns c = rising-apart
