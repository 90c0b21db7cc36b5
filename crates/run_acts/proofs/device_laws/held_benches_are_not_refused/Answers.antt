use Rattle.run_acts.proofs.NotRefused.{held_benches_are_not_refused}
use Rattle.run_acts.proofs.device_laws.held_benches_are_not_refused.Goals as goal

pub returns : goal.returns
returns c = held_benches_are_not_refused
