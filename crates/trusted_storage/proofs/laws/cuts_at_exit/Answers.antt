use Rattle.trusted_storage.proofs.Last.{cuts_exit}
use Rattle.trusted_storage.proofs.laws.cuts_at_exit.Goals as goal

pub returns : goal.returns
returns g c = λ was source held sink. cuts_exit g.F.StoreFile.state g.R.RpmbPort.state g.F.FileRig.crash_image (g.E.Entropy.is_reliable c.args.entropy.now) _
