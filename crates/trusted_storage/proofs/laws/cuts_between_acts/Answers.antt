use Rattle.trusted_storage.proofs.Mapped.{cuts_between}
use Rattle.trusted_storage.proofs.laws.cuts_between_acts.Goals as goal

pub returns : goal.returns
returns g c = λ was source held sink. cuts_between g.F.StoreFile.state g.R.RpmbPort.state g.F.FileRig.crash_image (g.E.Entropy.is_reliable c.args.entropy.now) _
