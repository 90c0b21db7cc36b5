-- The arms of a gate's devices: the directory's file, and the port to the card. Other devices are not the gate's.
use Rattle.std.specs.Prelude.{◌≡◌, ℕ}
use Rattle.disk_model.specs.Controls.{failure_armed, stop_armed}
use Rattle.disk_model.specs.State.{FileState}
use Rattle.rpmb_card.specs.Arms.{arm_failure, arm_stop}
use Rattle.rpmb_card.specs.Port.{PortState, Rearmed}
use Rattle.tee_types.specs.declared.reply.Device.{Device}
use Rattle.tee_types.specs.declared.reply.Device.TheVariants.{Dir, File, Card, Entropy}

-- both as they were
pub record StayArmed (f0 f1 : FileState) (p0 p1 : PortState) : Type 0 where
  pub file : f1 ≡ f0
  pub port : p1 ≡ p0

-- the file has these arms, the port those that it had
pub record ArmsFile (armed : FileState) (f1 : FileState) (p0 p1 : PortState) : Type 0 where
  pub file : f1 ≡ armed
  pub port : p1 ≡ p0

abbrev pub StopsDevice : Device → (calls : ℕ) → (f0 f1 : FileState) → (p0 p1 : PortState) → Type 0
StopsDevice Dir calls f0 f1 p0 p1 = ArmsFile (stop_armed f0 calls) f1 p0 p1
StopsDevice Card calls f0 f1 p0 p1 = (f1 ≡ f0) × Rearmed p0 p1 (arm_stop p0.arms calls)
StopsDevice (File n) calls f0 f1 p0 p1 = StayArmed f0 f1 p0 p1
StopsDevice Entropy calls f0 f1 p0 p1 = StayArmed f0 f1 p0 p1

abbrev pub FailsDevice : Device → (call : ℕ) → (f0 f1 : FileState) → (p0 p1 : PortState) → Type 0
FailsDevice Dir call f0 f1 p0 p1 = ArmsFile (failure_armed f0 call) f1 p0 p1
FailsDevice Card call f0 f1 p0 p1 = (f1 ≡ f0) × Rearmed p0 p1 (arm_failure p0.arms call)
FailsDevice (File n) call f0 f1 p0 p1 = StayArmed f0 f1 p0 p1
FailsDevice Entropy call f0 f1 p0 p1 = StayArmed f0 f1 p0 p1

-- what an arming may change of a file and of a port
abbrev pub IsRearmedFile : (old new : FileState) → Type 0
IsRearmedFile old new = new ≡ record old { arms = new.arms; calm = new.calm; steady = new.steady }

abbrev pub IsRearmedPort : (old new : PortState) → Type 0
IsRearmedPort old new = new ≡ record old { calm = new.calm; arms = new.arms }
