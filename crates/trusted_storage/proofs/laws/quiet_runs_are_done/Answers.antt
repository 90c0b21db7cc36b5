use Rattle.trusted_storage.proofs.Found.{quiet_done}
use Rattle.trusted_storage.proofs.laws.quiet_runs_are_done.Goals as goal

pub returns : goal.returns
returns g c = λ was source held sink. quiet_done g.F.StoreFile.state g.R.RpmbPort.state g.F.FileRig.crash_image (g.E.Entropy.is_reliable c.args.entropy.now) _
