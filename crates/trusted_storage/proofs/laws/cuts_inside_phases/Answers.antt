use Rattle.trusted_storage.proofs.Mapped.{cuts_inside}
use Rattle.trusted_storage.proofs.laws.cuts_inside_phases.Goals as goal

pub returns : goal.returns
returns g c = λ was source held sink. cuts_inside g.F.StoreFile.state g.R.RpmbPort.state g.F.FileRig.crash_image (g.E.Entropy.is_reliable c.args.entropy.now) _
