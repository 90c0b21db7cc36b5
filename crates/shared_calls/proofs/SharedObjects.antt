-- What making an object leaves of its slot, and what the slot keeps once the object goes.
use Rattle.std.proofs.Common.{◌≡◌, [], ℕ, Err, List, MatchResult, Ok, Result, ap, inl, refl, subst, sym}
use Rattle.serial_calls.specs.Created.{TriedCauseOrNot}
use Rattle.serial_calls.specs.Seating.{unmade}
use Rattle.serial_calls.specs.CreateFailure.{reply_unmade}
use Rattle.serial_calls.specs.declared.create_failure.CreateFailure.{CreateFailure}
use Rattle.disk_model.specs.Calls.{GoesOn}
use Rattle.node_image.specs.declared.node.RootRef.{RootRef}
use Rattle.serial_calls.specs.SlotValues.{SlotValue}
use Rattle.tee_types.specs.declared.reply.Device.TheVariants.{File}
use Rattle.tee_types.specs.declared.reply.Reply.{Reply}
use Rattle.serial_calls.specs.DeviceCounts.{Rise, told_of}
use Rattle.serial_calls.specs.Devices.{Devices}
use Rattle.serial_calls.proofs.CountGrowth.{grows_le}
use Rattle.serial_calls.proofs.CreatedCalls.{unmade_accuses_file}
use Rattle.serial_calls.proofs.Tellings.{Rise-told_of}
use Rattle.shared_calls.specs.SharedCreate.{told_made}
use Rattle.shared_calls.specs.Kept.{KeepsSlot}
use Rattle.shared_calls.proofs.KeptSlots.{keeps-called, keeps-moved, keeps-untold}
use Rattle.shared_calls.proofs.StageCounts.{of_stage}

-- The reply carries what the file counted, where no object was made.
module _ (before : Devices) (old new : SlotValue) (same : new ≡ record old { file = new.file; holds = new.holds }) (goes_on : GoesOn old.file new.file) (k : KeepsSlot before old []) where
  number : new.number ≡ old.number
  number = ap (λ (s : SlotValue). s.number) same

  called : (told : List ℕ) → Rise old.file.faults new.file.faults told → KeepsSlot before new told
  called told rise = keeps-called before old new number told (ap (λ (s : SlotValue). s.seat) same) goes_on rise k

  pub keeps-made : {X : Type 0} (counter : ℕ) (Reliable : Type 0) (drew draws : ℕ) (result : Result (Result RootRef CreateFailure) X) → TriedCauseOrNot counter old.number old.file new.file Reliable drew draws result
      → MatchResult result (λ made. KeepsSlot before new (told_made new.number made)) (λ none. KeepsSlot before new [])
  keeps-made counter Reliable drew draws (Ok (Ok root)) cause = called [] (inl (cause.0).faults)
  keeps-made counter Reliable drew draws (Ok (Err why)) cause =
      let reply : Reply = reply_unmade why in
      let from : Devices = of_stage old.file drew in
      let to : Devices = of_stage new.file draws in
      subst (λ (n : ℕ). KeepsSlot before new (told_of (File n) reply)) (sym number)
      (called (told_of (File old.number) reply)
      (Rise-told_of [] from to (File old.number) reply (unmade_accuses_file [] from to old.number old.file new.file (λ n own. (refl, refl)) counter Reliable reply cause)
      (grows_le old.file.faults new.file.faults goes_on.faults)))
  keeps-made counter Reliable drew draws (Err none) cause = called [] (inl (cause.0).faults)

-- the object went, and what was not told of it goes with it
pub keeps-unmade : (before : Devices) (old new : SlotValue) (then : List ℕ) → new ≡ unmade old → KeepsSlot before old then → KeepsSlot before new []
keeps-unmade before old new then is k =
    keeps-moved before old new (ap (λ (s : SlotValue). s.number) is) [] (ap (λ (s : SlotValue). s.file) is) (ap (λ (s : SlotValue). s.seat) is) (keeps-untold before old then k)
