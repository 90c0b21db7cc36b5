use Rattle.trusted_storage.proofs.Blamed.{replies_accuse}
use Rattle.trusted_storage.proofs.laws.replies_accuse_rightly.Goals as goal

pub returns : goal.returns
returns g c = λ was source held sink. replies_accuse g.F.StoreFile.state g.R.RpmbPort.state g.F.FileRig.crash_image (g.E.Entropy.is_reliable c.args.entropy.now) _
