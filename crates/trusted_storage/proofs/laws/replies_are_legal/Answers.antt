use Rattle.trusted_storage.proofs.Legal.{replies_legal}
use Rattle.trusted_storage.proofs.laws.replies_are_legal.Goals as goal

pub returns : goal.returns
returns g c = λ was source held sink. replies_legal g.F.StoreFile.state g.R.RpmbPort.state g.F.FileRig.crash_image (g.E.Entropy.is_reliable c.args.entropy.now) _
