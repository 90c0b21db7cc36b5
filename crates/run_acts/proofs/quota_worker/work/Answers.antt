use Rattle.std.proofs.Common.{Bool, subst, sym}
use Rattle.run_acts.specs.QuotaWork.{HasWorkedTo}
use Rattle.run_acts.proofs.QuotaSteps.{worked-to}
use Rattle.run_acts.proofs.quota_worker.work.Goals as goal

pub returns : goal.returns
returns g c = λ limits limited.
    let was = c.args.worker.now.session.caller in
    let made = c.make_own_calls_within-made in
    let after = made.new.worker in
    subst (λ (done : Bool). HasWorkedTo g.E.Entropy.is_reliable g.E.Entropy.faults g.L.StoreName.store limits c.args.steps.now done was after.session.caller after.refused.items) (sym c.is_ok-worker.ensures.value)
    (worked-to g.E.Entropy.is_reliable g.E.Entropy.faults g.L.StoreName.store limits c.args.steps.now was after.session.caller after.refused.items made.result (made.ensures.made limits limited)
    (made.ensures.stopped limits limited))
