use Rattle.run_acts.proofs.QuotaLaws.{quota_phases_isolate}
use Rattle.run_acts.proofs.quota_laws.quota_phases_isolate.Goals as goal

pub returns : goal.returns
returns g c = quota_phases_isolate g.F.StoreFile.state g.R.RpmbPort.state (g.E.Entropy.is_reliable c.args.entropy.now)
