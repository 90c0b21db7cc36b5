use Rattle.trusted_storage.proofs.Found.{left_found}
use Rattle.trusted_storage.proofs.laws.what_is_left_is_found.Goals as goal

pub returns : goal.returns
returns g c = λ was source held sink. left_found g.F.StoreFile.state g.R.RpmbPort.state g.F.FileRig.crash_image (g.E.Entropy.is_reliable c.args.entropy.now) _
