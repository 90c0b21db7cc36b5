use Rattle.run_acts.proofs.MigrationEnds.{moved_benches_are_current}
use Rattle.run_acts.proofs.device_laws.moved_benches_are_current.Goals as goal

pub returns : goal.returns
returns g c = moved_benches_are_current g.F.StoreFile.state g.R.RpmbPort.state
