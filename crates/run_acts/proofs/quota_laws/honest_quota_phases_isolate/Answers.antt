use Rattle.run_acts.proofs.QuotaLaws.{honest_quota_phases_isolate}
use Rattle.run_acts.proofs.quota_laws.honest_quota_phases_isolate.Goals as goal

pub returns : goal.returns
returns g c = honest_quota_phases_isolate g.F.StoreFile.state g.met.F.StoreFile.sound g.R.RpmbPort.state (g.E.Entropy.is_reliable c.args.entropy.now)
