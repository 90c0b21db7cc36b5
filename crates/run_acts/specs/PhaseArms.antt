-- The arms of a phase.
use Rattle.std.specs.Prelude.{◌≡◌, ℕ, List, [], ◌∷◌, ◌++◌}
use Rattle.disk_model.specs.State.{FileState}
use Rattle.rpmb_card.specs.Arms.{arm_loss}
use Rattle.rpmb_card.specs.Port.{PortState, Rearmed}
use Rattle.script_text.specs.declared.script.Arm.{Arm}
use Rattle.script_text.specs.declared.script.Arm.TheVariants.{Fail, Lose, Stop, Taint}
use Rattle.object_calls.specs.OpeningArms.{FailsOnBench, StopsOnBench, TaintsOnBench}
use Rattle.object_calls.specs.Opening.{OpeningValue}
use Rattle.run_acts.specs.Benches.{BenchState, opening_state}

-- what one arm does to the devices
abbrev pub ArmsOneOf : Arm → (old new : BenchState) → Type 0
ArmsOneOf (Stop device calls) old new = StopsOnBench device calls old.files new.files old.card new.card
ArmsOneOf (Fail device call) old new = FailsOnBench device call old.files new.files old.card new.card
ArmsOneOf (Lose call) old new = ((file : ℕ) → new.files file ≡ old.files file) × Rearmed old.card new.card (arm_loss old.card.arms call)
ArmsOneOf (Taint file call at mask) old new = TaintsOnBench file (record { call = call; at = at; mask = mask }) old.files new.files old.card new.card

-- what these arms do, one after another
abbrev pub ArmsAll : List Arm → (old new : BenchState) → Type 0
ArmsAll [] old new = ((file : ℕ) → new.files file ≡ old.files file) × (new.card ≡ old.card)
ArmsAll (arm ∷ arms) old new = (between : BenchState) × ArmsOneOf arm old between × ArmsAll arms between new

-- the first of these arms were set, and no other
abbrev pub ArmsFront : List Arm → (old new : BenchState) → Type 0
ArmsFront arms old new = (front : List Arm) × (rest : List Arm) × (arms ≡ front ++ rest) × ArmsAll front old new

-- of a store that is mounted, only its devices changed
abbrev pub OnlyDevices : {F R : Type 0} → (old new : OpeningValue F R) → Type 0
OnlyDevices old new = new ≡ record old {
  gate = record old.gate {
    dir = record old.gate.dir { file = new.gate.dir.file };
    host = record old.gate.host { port = new.gate.host.port };
  };
  files = new.files;
}

-- The store has a session for each application, in order, and its devices are armed; nothing else changed.
pub record IsReady {F R : Type 0} (of_file : F → FileState) (of_port : R → PortState) (applications : List (List ℕ)) (arms : List Arm) (opened armed : OpeningValue F R) : Type 0 where
  pub arms_are : ArmsAll arms (opening_state of_file of_port opened) (opening_state of_file of_port armed)
  pub others : OnlyDevices (record opened { applications = applications }) armed
