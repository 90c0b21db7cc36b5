use Rattle.trusted_storage.proofs.Served.{calls_served}
use Rattle.trusted_storage.proofs.laws.calls_are_served_once.Goals as goal

pub returns : goal.returns
returns g c = λ was source held sink. calls_served g.F.StoreFile.state g.R.RpmbPort.state g.F.FileRig.crash_image (g.E.Entropy.is_reliable c.args.entropy.now) _
