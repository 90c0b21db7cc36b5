use Rattle.run_acts.proofs.ListedLeft.{lists_keep}
use Rattle.run_acts.proofs.device_laws.lists_keep.Goals as goal

pub returns : goal.returns
returns g c = lists_keep g.F.StoreFile.state g.R.RpmbPort.state
