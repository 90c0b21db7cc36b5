use Rattle.script_runner.proofs.QuotaRuns.{quota_runs_isolate}
use Rattle.script_runner.proofs.record_laws.quota_runs_isolate.Goals as goal

pub returns : goal.returns
returns g c = quota_runs_isolate g.F.StoreFile.state g.R.RpmbPort.state g.F.FileRig.crash_image (g.E.Entropy.is_reliable c.args.entropy.now)
