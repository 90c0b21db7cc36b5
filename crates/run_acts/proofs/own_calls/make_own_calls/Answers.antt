use Rattle.std.proofs.lemmas.Result.{err_from_is_err_and}
use Rattle.run_acts.proofs.Makings.{made_more, stopped_at}
use Rattle.run_acts.proofs.own_calls.make_own_calls.Goals as goal

pub loop-step-preserved : goal.loop-step-preserved
loop-step-preserved g c =
    let a = c.args in
    let l = c.loop-step in
    made_more g.E.Entropy.is_reliable g.E.Entropy.faults g.L.StoreName.store a.steps.now l.step-index c.step-item.result c.loop-step-test.true c.step-item.is a.session.now l.session c.make_own_step.new.session l.invariant
    c.in_ok-make_own_step.ensures.made

pub returns-in_err-make_own_step-clause-stopped : goal.returns-in_err-make_own_step-clause-stopped
returns-in_err-make_own_step-clause-stopped g c =
    let a = c.args in
    let l = c.loop-step in
    let p = err_from_is_err_and c.from_residual.result c.from_residual.ensures.1 in
    rw (p.1)
    (stopped_at g.E.Entropy.is_reliable g.E.Entropy.faults g.L.StoreName.store a.steps.now l.step-index c.step-item.result c.loop-step-test.true c.step-item.is a.session.now l.session c.make_own_step.new.session l.invariant
    c.in_err-make_own_step.ensures.stopped)
