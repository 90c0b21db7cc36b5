use Rattle.script_runner.proofs.RunLaws.{runs_find_left}
use Rattle.script_runner.proofs.record_laws.runs_find_left.Goals as goal

pub returns : goal.returns
returns g c = λ was source held sink. runs_find_left g.F.StoreFile.state g.R.RpmbPort.state g.F.FileRig.crash_image (g.E.Entropy.is_reliable c.args.entropy.now) _
