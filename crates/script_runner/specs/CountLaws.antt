-- The counts of faults over a run: they rise only where the script armed the device.
use Rattle.std.specs.Prelude.{ℕ, ◌≡◌, ◌⊎◌, ◌<◌, List, [], ◌∷◌, None, Option, Some, option_and_then, IsTrue}
use Rattle.disk_model.specs.Faults.{Rose}
use Rattle.disk_model.specs.State.{FileState}
use Rattle.hmac_keys.specs.declared.Keys.{Keys}
use Rattle.tee_types.specs.Limits.{directory_file, file_count}
use Rattle.rpmb_card.specs.Port.{PortState}
use Rattle.tee_types.specs.declared.reply.Device.{Device}
use Rattle.tee_types.specs.declared.reply.Device.TheVariants.{Card, Dir, Entropy, File}
use Rattle.script_text.specs.declared.script.Arm.{Arm}
use Rattle.script_text.specs.declared.script.Arm.TheVariants.{Fail, Lose, Stop, Taint}
use Rattle.script_text.specs.declared.script.Control.TheVariants.{Arm as ArmControl}
use Rattle.run_acts.specs.Benches.{BenchState}
use Rattle.script_runner.specs.declared.status.Status.{Status}
use Rattle.script_runner.specs.Records.{EachBench, acts_in}
use Rattle.script_runner.specs.RunCauses.{World}
use Rattle.script_runner.specs.Runs.{RunsSource}
use Rattle.script_runner.specs.Text.{Act, Do}

-- the number of a device's file
abbrev pub file_of_device : Device → Option ℕ
file_of_device Dir = Some directory_file
file_of_device (File number) = Some number
file_of_device Card = None
file_of_device Entropy = None

-- the device that is armed to fail; a mask fails no call
abbrev pub armed_device : Arm → Option Device
armed_device (Stop device calls) = Some device
armed_device (Fail device call) = Some device
armed_device (Lose call) = Some Card
armed_device (Taint file call at mask) = None

abbrev pub ArmsFile : (file : ℕ) → Arm → Type 0
ArmsFile file arm = option_and_then file_of_device (armed_device arm) ≡ Some file

abbrev pub ArmsCard : Arm → Type 0
ArmsCard arm = armed_device arm ≡ Some Card

-- none of these acts arms so
abbrev pub NoneArms : (Arms : Arm → Type 0) → List Act → Type 0
NoneArms Arms [] = Unit {0}
NoneArms Arms (Do (ArmControl arm) ∷ acts) = (Arms arm → ⊥) × NoneArms Arms acts
NoneArms Arms (act ∷ acts) = NoneArms Arms acts

-- A file that was calm, and that none of these acts armed, counted a fault only where a call of it found no memory. Such a port counted none.
pub record CountsAsArmed (handed : BenchState) (done : List Act) (bench : BenchState) : Type 0 where
  pub files : (file : ℕ) → file < file_count → IsTrue (handed.files file).calm → NoneArms (ArmsFile file) done
      → ((bench.files file).faults ≡ (handed.files file).faults) ⊎ Rose (handed.files file).starved (bench.files file).starved
  pub card : IsTrue handed.card.calm → NoneArms ArmsCard done → bench.card.faults ≡ handed.card.faults

-- So in each bench that a run leaves, by the acts down to there.
abbrev pub RunsCountAsArmed : {F R : Type 0} (of_file : F → FileState) (of_port : R → PortState) (image : FileState → ℕ → ℕ → List ℕ) (Reliable : Type 0) (w : World) → Type 0
RunsCountAsArmed of_file of_port image Reliable w =
    (left_old left_new held_old held_new : Option (List ℕ)) (drew draws : ℕ) (keys : Keys) (handed given : BenchState) (status : Status)
    → (r : RunsSource of_file of_port image Reliable left_old left_new held_old held_new w drew draws keys handed given status)
    → EachBench (λ done bench. CountsAsArmed handed (acts_in done) bench) [] (r.0).records given
