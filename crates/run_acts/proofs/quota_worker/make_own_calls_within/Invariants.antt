use Rattle.std.proofs.Common.{take}
use Rattle.app_quota.specs.Limits.{Limits}
use Rattle.quota_store.specs.CallerSessions.{IsCallerOf}
use Rattle.run_acts.specs.QuotaWork.{HasMadeWithin, IsLimited}
use Rattle.run_acts.proofs.quota_worker.make_own_calls_within.Given as goal

abbrev pub invariant-loop-number : goal.invariant-loop-number
invariant-loop-number g l = record {
  made : (limits : Limits) → IsLimited limits l.initial.worker.session
      → HasMadeWithin g.E.Entropy.is_reliable g.E.Entropy.faults g.L.StoreName.store limits (take l.number l.steps) l.initial.worker.session.caller l.worker.session.caller l.worker.refused.items;
  limited : (limits : Limits) → IsLimited limits l.initial.worker.session → IsLimited limits l.worker.session;
  caller : IsCallerOf g.L.StoreName.store l.worker.session.caller;
}
