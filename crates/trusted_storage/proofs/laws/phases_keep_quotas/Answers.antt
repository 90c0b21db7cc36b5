use Rattle.trusted_storage.proofs.Quotas.{phases_keep}
use Rattle.trusted_storage.proofs.laws.phases_keep_quotas.Goals as goal

pub returns : goal.returns
returns g c = λ was source held sink. phases_keep g.F.StoreFile.state g.met.F.StoreFile.sound g.R.RpmbPort.state g.F.FileRig.crash_image (g.E.Entropy.is_reliable c.args.entropy.now) _
