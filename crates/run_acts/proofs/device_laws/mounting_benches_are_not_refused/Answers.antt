use Rattle.run_acts.proofs.NotRefused.{mounting_benches_are_not_refused}
use Rattle.run_acts.proofs.device_laws.mounting_benches_are_not_refused.Goals as goal

pub returns : goal.returns
returns c = mounting_benches_are_not_refused
