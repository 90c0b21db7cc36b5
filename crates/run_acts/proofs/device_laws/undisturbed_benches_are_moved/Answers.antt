use Rattle.run_acts.proofs.MigrationEnds.{undisturbed_benches_are_moved}
use Rattle.run_acts.proofs.device_laws.undisturbed_benches_are_moved.Goals as goal

pub returns : goal.returns
returns c = undisturbed_benches_are_moved
