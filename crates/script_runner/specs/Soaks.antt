-- A soak: a bench is opened, the calls that follow from a number are one phase on threads, and the objects that it leaves are listed.
use Rattle.std.specs.Prelude.{ℕ, ◌≡◌, ◌⊎◌, List, [], ◌∷◌, ◌++◌, length, Option, Some, None}
use Rattle.disk_model.specs.State.{FileState}
use Rattle.hmac_keys.specs.declared.Keys.{Keys}
use Rattle.rpmb_card.specs.Port.{PortState}
use Rattle.run_acts.specs.declared.MountFault.{MountFault}
use Rattle.run_acts.specs.declared.MountFault.TheVariants.{NoMemory}
use Rattle.store_model.specs.declared.event.Event.{Event}
use Rattle.store_model.specs.Object.{ObjectMap}
use Rattle.script_text.specs.declared.script.Control.TheVariants.{List as ListControl}
use Rattle.script_text.specs.declared.script.Mode.TheVariants.{Threads}
use Rattle.run_acts.specs.Lines.{objects_text, refusal_line}
use Rattle.seed_words.specs.Outcome.{soak_lines}
use Rattle.seed_words.specs.Scripts.{soak_calls, soak_script}
use Rattle.run_acts.specs.Benches.{BenchState}
use Rattle.run_acts.specs.ListedBenches.{ListsBench}
use Rattle.script_runner.specs.declared.status.Status.{Status}
use Rattle.script_runner.specs.Records.{RunRecord, acts_in, outcomes_in}
use Rattle.script_runner.specs.Text.{Act, ActOutcome, Do, Listed, Ran, Refused, Serve, stop_of}
use Rattle.script_runner.specs.Trace.{applications_of}
use Rattle.script_runner.specs.Course.{Goes}
use Rattle.script_runner.specs.Ending.{GoesThrough}
use Rattle.script_runner.specs.Running.{RunsActs}
use Rattle.script_runner.specs.SavedFiles.{Standing, begins_with}

-- the UUIDs of its applications
abbrev pub soak_applications : ℕ → List (List ℕ)
soak_applications number = applications_of (soak_script number)

-- its acts: the phase, and a list
abbrev pub soak_acts : ℕ → List Act
soak_acts number = Serve Threads (soak_calls number) ∷ Do ListControl ∷ []

-- its text: five lines of what came of it, or the line of the mount that was refused
abbrev pub soak_output : ℕ → (start : Option MountFault) → List ActOutcome → List ℕ
soak_output number None (Ran phase ∷ Listed objects ∷ []) = soak_lines number phase.events (length objects) (objects_text objects)
soak_output number None (Ran phase ∷ Refused fault ∷ []) = refusal_line fault
soak_output number None (Refused fault ∷ []) = refusal_line fault
soak_output number (Some fault) outcomes = refusal_line fault
soak_output number start outcomes = []

-- The objects were listed, and the lines tell of them and of the history.
pub record PrintsObjects {F R : Type 0} (of_file : F → FileState) (of_port : R → PortState) (keys : Keys) (number : ℕ) (events : List Event) (old new : BenchState) (lines : List ℕ) : Type 0 where
  pub objects : ObjectMap
  pub lists : ListsBench of_file of_port keys old new objects (objects_text objects)
  pub lines_are : lines ≡ soak_lines number events (length objects) (objects_text objects)

module _ {F R : Type 0} (of_file : F → FileState) (of_port : R → PortState) (image : FileState → ℕ → ℕ → List ℕ) (Reliable : Type 0) (keys : Keys) (number : ℕ) where
  -- Both acts were done on a bench that was opened, and the lines tell what came of them.
  pub record IsThrough (old new : BenchState) (lines : List ℕ) : Type 0 where
    pub records : List RunRecord
    pub last : Standing
    pub goes : Goes of_file of_port image Reliable keys (soak_applications number) records (begins_with old) last
    pub new_is : new ≡ last.bench
    pub acts_are : acts_in records ≡ soak_acts number
    pub lines_are : lines ≡ soak_output number None (outcomes_in records)

  -- It stopped at an act, and the last record says why; or memory ran out, before the first act or behind both.
  pub record IsBroken (drew draws : ℕ) (old new : BenchState) (fault : MountFault) : Type 0 where
    pub records : List RunRecord
    pub left : List Act
    pub front : soak_acts number ≡ acts_in records ++ left
    pub goes : GoesThrough of_file of_port image Reliable drew draws keys (soak_applications number) records (begins_with old) new
    pub why : ((stop_of (outcomes_in records) ≡ Some (Refused fault)) × (soak_output number None (outcomes_in records) ≡ refusal_line fault))
        ⊎ ((stop_of (outcomes_in records) ≡ None) × (fault ≡ NoMemory))

  -- The run of the soak.
  abbrev pub RunsSoak : (drew draws : ℕ) → (failed : Type 0) → (held_old held_new : Option (List ℕ)) → (handed given : BenchState) → Status → Type 0
  RunsSoak drew draws failed held_old held_new handed given status =
      RunsActs of_file of_port image Reliable drew draws keys (soak_applications number) (soak_acts number) (soak_output number) failed held_old held_new handed given status
