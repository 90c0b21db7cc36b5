use Rattle.trusted_storage.proofs.Unlimited.{unlimited_fit}
use Rattle.trusted_storage.proofs.laws.runs_without_quotas_fit.Goals as goal

pub returns : goal.returns
returns g c = λ was source held sink. unlimited_fit g.F.StoreFile.state g.R.RpmbPort.state g.F.FileRig.crash_image (g.E.Entropy.is_reliable c.args.entropy.now) _
