use Rattle.run_acts.proofs.Untainted.{lists_stay_untainted}
use Rattle.run_acts.proofs.untainted_laws.lists_stay_untainted.Goals as goal

pub returns : goal.returns
returns g c = lists_stay_untainted g.F.StoreFile.state g.R.RpmbPort.state
