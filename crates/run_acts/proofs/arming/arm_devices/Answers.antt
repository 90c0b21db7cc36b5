use Rattle.std.proofs.Common.{List, drop, get_or, take, sym, subst, take-append-drop}
use Rattle.std.proofs.lemmas.List.{take_more}
use Rattle.std.proofs.lemmas.Result.{err_from_is_err_and}
use Rattle.script_text.specs.declared.script.Arm.{Arm}
use Rattle.run_acts.specs.Benches.{opening_state}
use Rattle.run_acts.specs.PhaseArms.{ArmsAll, ArmsOneOf}
use Rattle.run_acts.proofs.Arms.{arms_push, arms_stay, devices_then}
use Rattle.run_acts.proofs.arming.arm_devices.Goals as goal

pub loop-arm-preserved : goal.loop-arm-preserved
loop-arm-preserved g c =
    let l = c.loop-arm in
    let arms : List Arm = c.args.arms.now in
    let arm : Arm = c.arm-item.result in
    let state = opening_state g.F.StoreFile.state g.R.RpmbPort.state in
    let old = c.args.opening.now in
    let new = c.arm_device.new.opening in
    record {
      arms = subst (λ (a : List Arm). ArmsAll a (state old) (state new)) (sym (take_more arms l.arm-index arm c.loop-arm-test.true))
          (arms_push (take l.arm-index arms) (get_or arms l.arm-index arm) (state old) (state l.opening) (state new) l.invariant.arms
          (subst (λ (a : Arm). ArmsOneOf a (state l.opening) (state new)) c.arm-item.is c.in_ok-arm_device.ensures.arms));
      others = devices_then old l.opening new l.invariant.others c.in_ok-arm_device.ensures.others;
    }

pub returns-in_err-arm_device-clause-some : goal.returns-in_err-arm_device-clause-some
returns-in_err-arm_device-clause-some g c =
    let l = c.loop-arm in
    let state = opening_state g.F.StoreFile.state g.R.RpmbPort.state in
    let front = take l.arm-index c.args.arms.now in
    let p = err_from_is_err_and c.from_residual.result c.from_residual.ensures.1 in
    rw (p.1) (front, drop l.arm-index c.args.arms.now, sym (take-append-drop l.arm-index c.args.arms.now), arms_stay front (state c.args.opening.now) (state l.opening) (state c.arm_device.new.opening) l.invariant.arms c.in_err-arm_device.ensures.unarmed)
