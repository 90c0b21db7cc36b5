use Rattle.run_acts.proofs.OldBenches.{old_benches_are_refused}
use Rattle.run_acts.proofs.device_laws.old_benches_are_refused.Goals as goal

pub returns : goal.returns
returns c = old_benches_are_refused
