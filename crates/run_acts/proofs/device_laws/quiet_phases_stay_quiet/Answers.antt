use Rattle.run_acts.proofs.QuietPhases.{quiet_phases_stay_quiet}
use Rattle.run_acts.proofs.device_laws.quiet_phases_stay_quiet.Goals as goal

pub returns : goal.returns
returns g c = quiet_phases_stay_quiet g.F.StoreFile.state g.R.RpmbPort.state (g.E.Entropy.is_reliable c.args.entropy.now)
