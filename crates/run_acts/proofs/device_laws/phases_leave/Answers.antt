use Rattle.run_acts.proofs.PhasesLeft.{phases_leave}
use Rattle.run_acts.proofs.device_laws.phases_leave.Goals as goal

pub returns : goal.returns
returns g c = phases_leave g.F.StoreFile.state g.R.RpmbPort.state (g.E.Entropy.is_reliable c.args.entropy.now)
