use Rattle.script_runner.proofs.QuietRuns.{quiet_runs_are_of_machine}
use Rattle.script_runner.proofs.record_laws.quiet_runs_are_of_machine.Goals as goal

pub returns : goal.returns
returns g c =
    quiet_runs_are_of_machine g.F.StoreFile.state g.R.RpmbPort.state g.F.FileRig.crash_image (g.E.Entropy.is_reliable c.args.entropy.now)
