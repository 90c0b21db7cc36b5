use Rattle.run_acts.proofs.OldBenches.{old_benches_are_not_mounted}
use Rattle.run_acts.proofs.device_laws.old_benches_are_not_mounted.Goals as goal

pub returns : goal.returns
returns g c = old_benches_are_not_mounted g.F.StoreFile.state g.R.RpmbPort.state
