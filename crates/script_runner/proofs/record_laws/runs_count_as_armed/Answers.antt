use Rattle.script_runner.proofs.CountLaws.{runs_count_as_armed}
use Rattle.script_runner.proofs.record_laws.runs_count_as_armed.Goals as goal

pub returns : goal.returns
returns g c = λ was source held sink. runs_count_as_armed g.F.StoreFile.state g.R.RpmbPort.state g.F.FileRig.crash_image (g.E.Entropy.is_reliable c.args.entropy.now) _
