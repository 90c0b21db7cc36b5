use Rattle.std.proofs.Common.{◌≡◌, ◌+◌, ◌++◌, [], ◌∷◌, List, take, sym, ap, ◌∙◌, subst, arith}
use Rattle.std.proofs.lemmas.List.{length-take-le, take_all, take_more}
use Rattle.std.proofs.lemmas.Result.{err_from_is_err_and}
use Rattle.script_text.specs.declared.script.Step.{Step}
use Rattle.run_acts.specs.QuotaWork.{HasMadeWithin, HasStoppedWithin}
use Rattle.run_acts.proofs.QuotaSteps.{stopped-within, within-none}
use Rattle.run_acts.proofs.quota_worker.make_own_calls_within.Goals as goal

pub loop-number-init : goal.loop-number-init
loop-number-init g c =
    let w = c.args.worker.now in
    record {
      made = λ limits limited.
          subst (HasMadeWithin g.E.Entropy.is_reliable g.E.Entropy.faults g.L.StoreName.store limits [] w.session.caller w.session.caller) (sym c.requires.unrefused)
          (within-none g.E.Entropy.is_reliable g.E.Entropy.faults g.L.StoreName.store limits w.session.caller c.requires.caller);
      limited = λ limits limited. limited;
      caller = c.requires.caller;
    }

pub loop-number-preserved : goal.loop-number-preserved
loop-number-preserved g c =
    let a = c.args in
    let l = c.loop-number in
    let made = c.make_own_step_within in
    let step : Step = c.index-steps-number.result in
    let taken : take (l.number + 1) a.steps.now ≡ take l.number a.steps.now ++ step ∷ [] =
    take_more a.steps.now l.number step c.loop-number-test.true ∙ ap (λ (x : Step). take l.number a.steps.now ++ x ∷ []) (sym c.index-steps-number.is) in
    record {
      made = λ limits limited.
          subst (λ (steps : List Step). HasMadeWithin g.E.Entropy.is_reliable g.E.Entropy.faults g.L.StoreName.store limits steps a.worker.now.session.caller made.new.worker.session.caller made.new.worker.refused.items)
          (sym taken)
          (c.in_ok-make_own_step_within.ensures.made limits a.worker.now.session.caller (take l.number a.steps.now) (length-take-le l.number a.steps.now (omega (arith, c.loop-number-test.true)))
          (l.invariant.limited limits limited) (l.invariant.made limits limited));
      limited = λ limits limited. made.ensures.limited limits (l.invariant.limited limits limited);
      caller = made.ensures.caller;
    }

pub returns-in_err-make_own_step_within-clause-stopped : goal.returns-in_err-make_own_step_within-clause-stopped
returns-in_err-make_own_step_within-clause-stopped g c = λ limits limited.
    let a = c.args in
    let l = c.loop-number in
    let after = c.make_own_step_within.new.worker in
    let p = err_from_is_err_and c.from_residual.result c.from_residual.ensures.1 in
    rw (p.1)
    (subst (HasStoppedWithin g.E.Entropy.is_reliable g.E.Entropy.faults g.L.StoreName.store limits a.steps.now a.worker.now.session.caller after.session.caller)
    (sym c.in_err-make_own_step_within.ensures.unnoted)
    (stopped-within g.E.Entropy.is_reliable g.E.Entropy.faults g.L.StoreName.store limits a.steps.now l.number c.index-steps-number.result c.loop-number-test.true c.index-steps-number.is
    a.worker.now.session.caller l.worker.session.caller after.session.caller l.worker.refused.items (l.invariant.made limits limited) c.in_err-make_own_step_within.ensures.stopped))

pub returns-clause-made : goal.returns-clause-made
returns-clause-made g c = λ limits limited.
    let a = c.args in
    let l = c.loop-number in
    let whole = take_all l.number a.steps.now (omega (arith, c.loop-number-test.false)) in
    subst (λ (steps : List Step). HasMadeWithin g.E.Entropy.is_reliable g.E.Entropy.faults g.L.StoreName.store limits steps a.worker.now.session.caller l.worker.session.caller l.worker.refused.items) whole
    (l.invariant.made limits limited)
