use Rattle.run_acts.proofs.Mounted.{mounts_open_with_left}
use Rattle.run_acts.proofs.device_laws.mounts_open_with_left.Goals as goal

pub returns : goal.returns
returns g c = mounts_open_with_left g.F.StoreFile.state g.R.RpmbPort.state
