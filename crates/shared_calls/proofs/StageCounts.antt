-- How the stage of a change counts the faults of the file and of the session's entropy.
use Rattle.std.proofs.Common.{[], ℕ, Err, IfOk, Ok, Result, refl}
use Rattle.serial_calls.specs.ChangeCauses.{HasChangeCause, HasStageCause}
use Rattle.serial_calls.specs.declared.stage_result.Staged.{Staged}
use Rattle.serial_calls.specs.declared.stage_result.Staged.TheVariants.{Root, Unstaged}
use Rattle.disk_model.specs.State.{FileState}
use Rattle.tee_types.specs.declared.reply.Reply.{Reply}
use Rattle.serial_calls.specs.Devices.{AccusesRightly, Devices}
use Rattle.serial_calls.proofs.ChangedCalls.{change_accuses_file}
use Rattle.shared_calls.specs.SharedChange.{CarriesStaged}
use Rattle.shared_calls.specs.Names.{no_devices}
use Rattle.shared_calls.proofs.CarriedDraws.{carries-accused}

-- the devices of a stage: a file and the session's entropy
abbrev pub of_stage : FileState → (draws : ℕ) → Devices
of_stage file draws = record no_devices { file = λ number. file; draws = draws }

-- the reply accuses one of them, if any
pub change-accuses : (from to : FileState) (number : ℕ) (Reliable : Type 0) (drew draws : ℕ) (reply : Reply) → HasChangeCause from to number Reliable drew draws reply
    → AccusesRightly [] (of_stage from drew) (of_stage to draws) reply
change-accuses from to number Reliable drew draws reply cause =
    change_accuses_file [] (of_stage from drew) (of_stage to draws) number from to (λ n own. (refl, refl)) Reliable reply cause

module _ {E : Type 0} (reliable : E → Type 0) (faults : E → ℕ) (from to : FileState) (number : ℕ) (was now : E) where
  abbrev Causes : Staged → Type 0
  Causes staged = HasStageCause from to number (reliable was) (faults was) (faults now) staged

  -- a reply that accuses the entropy carries its count
  pub stage-carries : {X : Type 0} (result : Result Staged X) → IfOk result Causes → IfOk result (CarriesStaged (faults was) (faults now))
  stage-carries (Ok (Root root)) cause = tt
  stage-carries (Ok (Unstaged reply)) cause =
      carries-accused [] (of_stage from (faults was)) (of_stage to (faults now)) reply (change-accuses from to number (reliable was) (faults was) (faults now) reply cause)
  stage-carries (Err none) cause = tt
