use Rattle.run_acts.proofs.ListedLeft.{refused_lists_keep}
use Rattle.run_acts.proofs.device_laws.refused_lists_keep.Goals as goal

pub returns : goal.returns
returns g c = refused_lists_keep g.F.StoreFile.state g.R.RpmbPort.state
