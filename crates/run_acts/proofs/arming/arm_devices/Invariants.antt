use Rattle.std.proofs.Common.{take}
use Rattle.run_acts.specs.Benches.{opening_state}
use Rattle.run_acts.specs.PhaseArms.{ArmsAll, OnlyDevices}
use Rattle.run_acts.proofs.arming.arm_devices.Given as goal

abbrev pub invariant-loop-arm : goal.invariant-loop-arm
invariant-loop-arm g l = record {
  arms : ArmsAll (take l.arm-index l.arms) (opening_state g.F.StoreFile.state g.R.RpmbPort.state l.initial.opening) (opening_state g.F.StoreFile.state g.R.RpmbPort.state l.opening);
  others : OnlyDevices l.initial.opening l.opening;
}
