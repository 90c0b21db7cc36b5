use Rattle.run_freshness.proofs.Lists.{lists_fresh}
use Rattle.run_freshness.proofs.laws.lists_are_fresh.Goals as goal

pub returns : goal.returns
returns g c = lists_fresh g.F.StoreFile.state g.R.RpmbPort.state g.met.F.StoreFile.sound
