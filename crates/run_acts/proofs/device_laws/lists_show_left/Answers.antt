use Rattle.run_acts.proofs.ListedLeft.{lists_show_left}
use Rattle.run_acts.proofs.device_laws.lists_show_left.Goals as goal

pub returns : goal.returns
returns g c = lists_show_left g.F.StoreFile.state g.R.RpmbPort.state
