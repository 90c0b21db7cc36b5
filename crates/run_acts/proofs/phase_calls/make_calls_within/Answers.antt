use Rattle.std.proofs.Common.{◌≡◌, ◌∙◌, ◌+◌, ◌++◌, [], ◌∷◌, List, length, take, sym, ap, subst, arith}
use Rattle.std.proofs.lemmas.List.{length-map, length-replicate, length-take-le, take_all, take_more}
use Rattle.std.proofs.lemmas.Result.{err_from_is_err_and}
use Rattle.app_quota.specs.Quotas.{limit_of}
use Rattle.script_text.specs.declared.script.Step.{Step}
use Rattle.run_acts.specs.OwnQuotas.{lists_in}
use Rattle.run_acts.specs.QuotaCalls.{MakesCallsWithin}
use Rattle.run_acts.specs.declared.refused_call.RefusedCall.{RefusedCall}
use Rattle.run_acts.proofs.QuotaMakings.{within-none, within-stopped}
use Rattle.run_acts.proofs.Seats.{StayReliable-none, StayReliable-then}
use Rattle.run_acts.proofs.phase_calls.make_calls_within.Goals as goal

pub loop-number-init : goal.loop-number-init
loop-number-init g c =
    let a = c.args in
    record {
      made = subst (λ (lists : List (List RefusedCall)). MakesCallsWithin g.F.StoreFile.state g.R.RpmbPort.state g.E.Entropy.faults g.L.StoreName.store (limit_of a.quotas.now) a.service.now a.service.now
          a.sessions.now a.sessions.now [] lists) (sym c.requires.none)
          (within-none g.F.StoreFile.state g.R.RpmbPort.state g.E.Entropy.faults g.L.StoreName.store (limit_of a.quotas.now) a.service.now a.sessions.now c.requires.sessions);
      seated = c.requires.sessions;
      reliable = StayReliable-none g.E.Entropy.is_reliable g.E.Entropy.faults a.sessions.now;
      listed = sym (length-map a.refused.now _) ∙ ap (λ (l : List (List RefusedCall)). length l) c.requires.none ∙ length-replicate (length a.sessions.now) [];
    }

pub loop-number-preserved : goal.loop-number-preserved
loop-number-preserved g c =
    let a = c.args in
    let l = c.loop-number in
    let made = c.make_step_within in
    let after = made.new in
    let step : Step = c.index-calls-number.result in
    let many = l.invariant.seated.many ∙ sym c.requires.sessions.many in
    let taken : take (l.number + 1) a.calls.now ≡ take l.number a.calls.now ++ step ∷ [] =
    take_more a.calls.now l.number step c.loop-number-test.true ∙ ap (λ (x : Step). take l.number a.calls.now ++ x ∷ []) (sym c.index-calls-number.is) in
    record {
      made = subst (λ (steps : List Step). MakesCallsWithin g.F.StoreFile.state g.R.RpmbPort.state g.E.Entropy.faults g.L.StoreName.store (limit_of a.quotas.now) a.service.now after.service a.sessions.now
          after.sessions steps (lists_in after.refused)) (sym taken)
          (c.in_ok-make_step_within.ensures.made a.service.now a.sessions.now (take l.number a.calls.now) (sym many) (length-take-le l.number a.calls.now (omega (arith, c.loop-number-test.true))) l.invariant.made);
      seated = made.ensures.sessions;
      reliable = StayReliable-then g.E.Entropy.is_reliable g.E.Entropy.faults a.sessions.now l.sessions after.sessions many l.invariant.reliable made.ensures.reliable;
      listed = omega (arith, l.invariant.listed, made.auto.refused, made.auto.sessions);
    }

pub returns-in_err-make_step_within-clause-stopped : goal.returns-in_err-make_step_within-clause-stopped
returns-in_err-make_step_within-clause-stopped g c =
    let a = c.args in
    let l = c.loop-number in
    let after = c.make_step_within.new in
    let many = l.invariant.seated.many ∙ sym c.requires.sessions.many in
    let p = err_from_is_err_and c.from_residual.result c.from_residual.ensures.1 in
    rw (p.1)
    (within-stopped g.F.StoreFile.state g.R.RpmbPort.state g.E.Entropy.faults g.L.StoreName.store (limit_of a.quotas.now) a.service.now l.service after.service a.sessions.now l.sessions after.sessions a.calls.now
    l.number c.loop-number-test.true (lists_in l.refused) (lists_in after.refused) many l.invariant.made c.in_err-make_step_within.ensures.stopped c.in_err-make_step_within.ensures.unnoted)

pub returns-clause-made : goal.returns-clause-made
returns-clause-made g c =
    let a = c.args in
    let l = c.loop-number in
    let whole = take_all l.number a.calls.now (omega (arith, c.loop-number-test.false)) in
    subst (λ (steps : List Step). MakesCallsWithin g.F.StoreFile.state g.R.RpmbPort.state g.E.Entropy.faults g.L.StoreName.store (limit_of a.quotas.now) a.service.now l.service a.sessions.now l.sessions steps
    (lists_in l.refused)) whole l.invariant.made
