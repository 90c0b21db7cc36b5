use Rattle.std.proofs.Common.{[], ap, refl, subst, sym}
use Rattle.std.proofs.lemmas.Result.{err_from_is_err_and}
use Rattle.object_calls.specs.Opening.{OpeningValue}
use Rattle.run_acts.specs.Benches.{BenchState, opening_state}
use Rattle.run_acts.specs.PhaseArms.{ArmsAll, OnlyDevices}
use Rattle.run_acts.proofs.phase.make_ready.Goals as goal

pub returns-clause-ready : goal.returns-clause-ready
returns-clause-ready g c =
    let O = OpeningValue g.row.F.Denot g.row.R.Denot in
    let state = opening_state g.F.StoreFile.state g.R.RpmbPort.state in
    let new : O = c.arm_devices.new.opening in
    let opened = c.in_ok-sessions.ensures.opened in
    record {
      arms_are = subst (λ (b : BenchState). ArmsAll c.args.arms.now b (state new)) (ap state opened) c.in_ok-arm_devices.ensures.arms;
      others = subst (λ (o : O). OnlyDevices o new) opened c.in_ok-arm_devices.ensures.others;
    }

pub returns-in_err-sessions-clause-unready : goal.returns-in_err-sessions-clause-unready
returns-in_err-sessions-clause-unready g c =
    let state = opening_state g.F.StoreFile.state g.R.RpmbPort.state in
    let old : OpeningValue g.row.F.Denot g.row.R.Denot = c.args.opening.now in
    let p = err_from_is_err_and c.from_residual.result c.from_residual.ensures.1 in
    rw (p.1) ([], c.args.arms.now, refl, subst (λ (b : BenchState). ArmsAll [] (state old) b) (ap state (sym c.open_sessions.ensures.same)) (λ file. refl, refl))

pub returns-in_err-arm_devices-clause-unready : goal.returns-in_err-arm_devices-clause-unready
returns-in_err-arm_devices-clause-unready g c =
    let state = opening_state g.F.StoreFile.state g.R.RpmbPort.state in
    let some = c.in_err-arm_devices.ensures.some in
    let p = err_from_is_err_and c.from_residual-in_err-arm_devices.result c.from_residual-in_err-arm_devices.ensures.1 in
    rw (p.1) (some.0, some.1, some.2, subst (λ (b : BenchState). ArmsAll some.0 b (state c.arm_devices.new.opening)) (ap state c.in_ok-sessions.ensures.opened) some.3)
