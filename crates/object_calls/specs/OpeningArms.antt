-- The arms of the devices of a mounted store.
use Rattle.std.specs.Prelude.{◌≡◌, ℕ}
use Rattle.disk_model.specs.Arms.{Taint}
use Rattle.disk_model.specs.Controls.{failure_armed, stop_armed, taint_armed}
use Rattle.disk_model.specs.State.{FileState}
use Rattle.tee_types.specs.Limits.{IsObjectFile, directory_file}
use Rattle.rpmb_card.specs.Arms.{arm_failure, arm_stop}
use Rattle.rpmb_card.specs.Port.{PortState, Rearmed}
use Rattle.tee_types.specs.declared.reply.Device.{Device}
use Rattle.tee_types.specs.declared.reply.Device.TheVariants.{Dir, File, Card, Entropy}
use Rattle.crash_core.specs.CoreState.{put}

-- the device is one of the bench
abbrev pub IsOnBench : Device → Type 0
IsOnBench Dir = Unit {0}
IsOnBench (File n) = IsObjectFile n
IsOnBench Card = Unit {0}
IsOnBench Entropy = ⊥

-- it is a file of the bench
abbrev pub IsFileOnBench : Device → Type 0
IsFileOnBench Dir = Unit {0}
IsFileOnBench (File n) = IsObjectFile n
IsFileOnBench Card = ⊥
IsFileOnBench Entropy = ⊥

-- all devices are as they were
pub record StayDevices (old new : ℕ → FileState) (p0 p1 : PortState) : Type 0 where
  pub files : (file : ℕ) → new file ≡ old file
  pub port : p1 ≡ p0

-- that file is so now, and nothing else changed
pub record ArmsOne (old new : ℕ → FileState) (p0 p1 : PortState) (file : ℕ) (armed : FileState) : Type 0 where
  pub files : (k : ℕ) → new k ≡ put old file armed k
  pub port : p1 ≡ p0

abbrev pub StopsOnBench : Device → (calls : ℕ) → (old new : ℕ → FileState) → (p0 p1 : PortState) → Type 0
StopsOnBench Dir calls old new p0 p1 = ArmsOne old new p0 p1 directory_file (stop_armed (old directory_file) calls)
StopsOnBench (File n) calls old new p0 p1 = ArmsOne old new p0 p1 n (stop_armed (old n) calls)
StopsOnBench Card calls old new p0 p1 = ((file : ℕ) → new file ≡ old file) × Rearmed p0 p1 (arm_stop p0.arms calls)
StopsOnBench Entropy calls old new p0 p1 = StayDevices old new p0 p1

abbrev pub FailsOnBench : Device → (call : ℕ) → (old new : ℕ → FileState) → (p0 p1 : PortState) → Type 0
FailsOnBench Dir call old new p0 p1 = ArmsOne old new p0 p1 directory_file (failure_armed (old directory_file) call)
FailsOnBench (File n) call old new p0 p1 = ArmsOne old new p0 p1 n (failure_armed (old n) call)
FailsOnBench Card call old new p0 p1 = ((file : ℕ) → new file ≡ old file) × Rearmed p0 p1 (arm_failure p0.arms call)
FailsOnBench Entropy call old new p0 p1 = StayDevices old new p0 p1

abbrev pub TaintsOnBench : Device → Taint → (old new : ℕ → FileState) → (p0 p1 : PortState) → Type 0
TaintsOnBench Dir taint old new p0 p1 = ArmsOne old new p0 p1 directory_file (taint_armed (old directory_file) taint)
TaintsOnBench (File n) taint old new p0 p1 = ArmsOne old new p0 p1 n (taint_armed (old n) taint)
TaintsOnBench Card taint old new p0 p1 = StayDevices old new p0 p1
TaintsOnBench Entropy taint old new p0 p1 = StayDevices old new p0 p1
