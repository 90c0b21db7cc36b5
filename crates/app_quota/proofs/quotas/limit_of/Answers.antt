use Rattle.std.proofs.Common.{cond, sym, ap, ◌∙◌}
use Rattle.app_quota.specs.Quotas.{quota_totals}
use Rattle.app_quota.proofs.Limits.{limit_more}
use Rattle.app_quota.proofs.quotas.limit_of.Goals as goal
use Rattle.app_quota.proofs.quotas.limit_of.Goals.{then-eq, else-eq}

pub loop-quota-preserved : goal.loop-quota-preserved
loop-quota-preserved c =
    limit_more c.args.quotas.now c.args.app c.loop-quota.quota-index c.quota-item.result c.loop-quota.limit c.if-eq.limit c.loop-quota-test.true c.quota-item.is c.loop-quota.invariant
    (elim c.if-eq.branch [
      | then-eq w ↦ w.limit-is ∙ ap (λ b. cond b (quota_totals c.quota-item.result) c.loop-quota.limit) (sym (sym c.eq.ensures ∙ w.if-eq.true))
      | else-eq w ↦ w.limit-is ∙ ap (λ b. cond b (quota_totals c.quota-item.result) c.loop-quota.limit) (sym (sym c.eq.ensures ∙ w.if-eq.false))
    ])
