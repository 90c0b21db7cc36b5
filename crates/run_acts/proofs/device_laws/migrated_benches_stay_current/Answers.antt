use Rattle.run_acts.proofs.MigrationEnds.{migrated_benches_stay_current}
use Rattle.run_acts.proofs.device_laws.migrated_benches_stay_current.Goals as goal

pub returns : goal.returns
returns g c = migrated_benches_stay_current g.F.StoreFile.state g.R.RpmbPort.state
