use Rattle.std.proofs.Common.{◌≡◌, take}
use Rattle.app_quota.specs.Quotas.{limit_of}
use Rattle.app_quota.proofs.quotas.limit_of.Given as goal

abbrev pub invariant-loop-quota : goal.invariant-loop-quota
invariant-loop-quota l = l.limit ≡ limit_of (take l.quota-index l.quotas) l.app
