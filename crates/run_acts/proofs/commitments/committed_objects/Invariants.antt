use Rattle.std.proofs.Common.{◌≡◌, ◌≤◌, ◌+◌, ◌*◌, length, take, sum_by}
use Rattle.hmac_keys.specs.declared.Keys.{Keys}
use Rattle.app_quota.specs.Commitments.{distinct_apps, unclaimed_of}
use Rattle.app_quota.specs.Quotas.{limit_of}
use Rattle.run_acts.specs.MountedDevices.{objects_in}
use Rattle.run_acts.proofs.commitments.committed_objects.Given as goal

abbrev pub invariant-loop-index : goal.invariant-loop-index
invariant-loop-index g l = record {
  sum : (keys : Keys) → l.sum ≡ length (objects_in g.F.StoreFile.state g.R.RpmbPort.state keys l.opening)
      + sum_by (unclaimed_of (limit_of l.quotas) (objects_in g.F.StoreFile.state g.R.RpmbPort.state keys l.opening)) (distinct_apps (take l.index l.applications));
  few : l.sum ≤ 65535 + l.index * 65535;
}
