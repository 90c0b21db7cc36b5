use Rattle.std.proofs.Common.{◌∙◌, sym, subst, arith}
use Rattle.std.proofs.lemmas.List.{take_all}
use Rattle.std.proofs.lemmas.Result.{err_from_is_err_and}
use Rattle.run_acts.specs.MadeCalls.{MakesCalls}
use Rattle.run_acts.proofs.Phases.{makes_front, makes_more, makes_none, serves_made}
use Rattle.run_acts.proofs.Seats.{StayReliable-none, StayReliable-then}
use Rattle.run_acts.proofs.phase_calls.make_calls.Goals as goal

pub loop-step-init : goal.loop-step-init
loop-step-init g c = record {
  made = makes_none g.F.StoreFile.state g.R.RpmbPort.state g.E.Entropy.faults g.L.StoreName.store c.args.service.now c.args.sessions.now;
  seated = c.requires.sessions;
  reliable = StayReliable-none g.E.Entropy.is_reliable g.E.Entropy.faults c.args.sessions.now;
}

pub loop-step-preserved : goal.loop-step-preserved
loop-step-preserved g c =
    let a = c.args in
    let l = c.loop-step in
    let after = c.make_step.new in
    let many = l.invariant.seated.many ∙ sym c.requires.sessions.many in
    record {
      made = makes_more g.F.StoreFile.state g.R.RpmbPort.state g.E.Entropy.faults g.L.StoreName.store a.service.now l.service after.service a.sessions.now l.sessions after.sessions a.calls.now
          l.step-index c.step-item.result c.loop-step-test.true c.step-item.is many l.invariant.made c.in_ok-make_step.ensures.made;
      seated = c.make_step.ensures.sessions;
      reliable = StayReliable-then g.E.Entropy.is_reliable g.E.Entropy.faults a.sessions.now l.sessions after.sessions many l.invariant.reliable c.make_step.ensures.reliable;
    }

pub returns-in_err-make_step-clause-stopped : goal.returns-in_err-make_step-clause-stopped
returns-in_err-make_step-clause-stopped g c =
    let a = c.args in
    let l = c.loop-step in
    let after = c.make_step.new in
    let many = l.invariant.seated.many ∙ sym c.requires.sessions.many in
    let p = err_from_is_err_and c.from_residual.result c.from_residual.ensures.1 in
    rw (p.1)
    (makes_front g.F.StoreFile.state g.R.RpmbPort.state g.E.Entropy.faults g.L.StoreName.store a.service.now l.service after.service a.sessions.now l.sessions after.sessions a.calls.now
    l.step-index c.loop-step-test.true many l.invariant.made c.in_err-make_step.ensures.stopped)

pub returns-clause-serves : goal.returns-clause-serves
returns-clause-serves g c =
    let a = c.args in
    let l = c.loop-step in
    let whole = take_all l.step-index a.calls.now (omega (arith, c.loop-step-test.false)) in
    λ none.
    serves_made g.F.StoreFile.state g.R.RpmbPort.state g.E.Entropy.faults g.L.StoreName.store a.service.now l.service a.sessions.now l.sessions a.calls.now
    (subst (MakesCalls g.F.StoreFile.state g.R.RpmbPort.state g.E.Entropy.faults g.L.StoreName.store a.service.now l.service a.sessions.now l.sessions) whole l.invariant.made) none
