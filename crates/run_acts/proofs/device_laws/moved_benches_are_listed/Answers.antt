use Rattle.run_acts.proofs.MigrationEnds.{moved_benches_are_listed}
use Rattle.run_acts.proofs.device_laws.moved_benches_are_listed.Goals as goal

pub returns : goal.returns
returns g c = moved_benches_are_listed g.F.StoreFile.state g.R.RpmbPort.state
