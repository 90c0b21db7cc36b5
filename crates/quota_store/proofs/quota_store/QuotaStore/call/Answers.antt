-- Nothing was done before the attempt that ends the call.
use Rattle.std.proofs.Common.{subst}
use Rattle.shared_store.specs.QuotaCallers.{KeepsLimits}
use Rattle.quota_store.specs.Callers.{QuotaCaller}
use Rattle.quota_store.proofs.quota_store.QuotaStore.call.Goals as goal

pub returns-in-Some-try_call-clause-limits : goal.returns-in-Some-try_call-clause-limits
returns-in-Some-try_call-clause-limits g c =
    subst (λ (q : QuotaCaller g.row.E.Denot). KeepsLimits g.L.StoreName.store q.limit q.caller c.try_call.new.session.caller) c.loop.invariant c.in-Some-try_call.ensures.limits
