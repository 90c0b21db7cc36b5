use Rattle.run_acts.proofs.Untainted.{next_openings_are_left}
use Rattle.run_acts.proofs.device_laws.next_openings_are_left.Goals as goal

pub returns : goal.returns
returns g c = next_openings_are_left g.F.StoreFile.state g.R.RpmbPort.state (g.E.Entropy.is_reliable c.args.entropy.now)
