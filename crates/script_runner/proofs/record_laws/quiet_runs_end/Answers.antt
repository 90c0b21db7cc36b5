use Rattle.script_runner.proofs.QuietEnds.{quiet_runs_end}
use Rattle.script_runner.proofs.record_laws.quiet_runs_end.Goals as goal

pub returns : goal.returns
returns g c = λ was source held sink. quiet_runs_end g.F.StoreFile.state g.R.RpmbPort.state g.F.FileRig.crash_image (g.E.Entropy.is_reliable c.args.entropy.now) _
