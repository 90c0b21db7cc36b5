-- Laws of the run of a script over a store that was found, or over a blank bench. Their only premise on the run is what `run` tells of it.
use Rattle.std.specs.Prelude.{ℕ, ◌≡◌, ◌⊎◌, List, [], ◌∷◌, None, Ok, Option, Some}
use Rattle.disk_model.specs.Faults.{Rose}
use Rattle.disk_model.specs.State.{FileState}
use Rattle.hmac_keys.specs.declared.Keys.{Keys}
use Rattle.rpmb_card.specs.Port.{PortState}
use Rattle.script_text.specs.Grammar.{script_of}
use Rattle.script_text.specs.Script.{ScriptValue}
use Rattle.store_model.specs.ReplayState.{ReplayState}
use Rattle.run_acts.specs.Benches.{BenchState}
use Rattle.run_acts.specs.declared.MountFault.{MountFault}
use Rattle.run_acts.specs.declared.MountFault.TheVariants.{NoMemory as NoMemoryFault}
use Rattle.run_acts.specs.MountingLaws.{IsOfDevice}
use Rattle.run_acts.specs.Quiet.{IsQuiet}
use Rattle.script_runner.specs.declared.status.Status.{Status}
use Rattle.script_runner.specs.declared.status.Status.TheVariants.{Done, NoMemory, OverCommitted}
use Rattle.script_runner.specs.HeldRuns.{BeginsWith}
use Rattle.script_runner.specs.QuietLaws.{ArmNothing}
use Rattle.script_runner.specs.RecordLaws.{AlterNothing, FindLeft, HoldsUntainted}
use Rattle.script_runner.specs.Records.{outcomes_in}
use Rattle.script_runner.specs.RunCauses.{RunsItsScript, World}
use Rattle.script_runner.specs.RunRefusals.{IsDeviceFault}
use Rattle.script_runner.specs.Runs.{RunsSource}
use Rattle.script_runner.specs.Text.{ActOutcome, Refused}
use Rattle.script_runner.specs.Trace.{Trace, applications_of, script_acts}

-- where an act was refused, a device failed or memory ran out
abbrev pub RefusedByDevices : List ActOutcome → Type 0
RefusedByDevices [] = Unit {0}
RefusedByDevices (Refused fault ∷ outcomes) = IsOfDevice fault × RefusedByDevices outcomes
RefusedByDevices (outcome ∷ outcomes) = RefusedByDevices outcomes

-- What a run tells, where that was left before it.
pub record FindsLeft (applications : List (List ℕ)) (s : ReplayState) (t : Trace) : Type 0 where
  -- each phase and each list found what the acts before it leave
  pub finds : FindLeft applications s (outcomes_in t.records)
  -- no store is refused: where an act is, a device failed or memory ran out
  pub refused : RefusedByDevices (outcomes_in t.records)
  -- and where the bench is not opened, too, or the card's counter is at its end
  pub opened : (fault : MountFault) → t.start ≡ Some fault → IsDeviceFault fault ⊎ (fault ≡ NoMemoryFault)

-- the status is 0 or 9
abbrev pub IsDoneOrStarved : Status → Type 0
IsDoneOrStarved Done = Unit {0}
IsDoneOrStarved NoMemory = Unit {0}
IsDoneOrStarved _ = ⊥

module _ {F R : Type 0} (of_file : F → FileState) (of_port : R → PortState) (image : FileState → ℕ → ℕ → List ℕ) (Reliable : Type 0) (w : World) where
  -- Each run does so, where its script alters no file, whether its store was found or formatted.
  abbrev pub RunsFindLeft : Type 0
  RunsFindLeft =
      (left_old left_new held_old held_new : Option (List ℕ)) (drew draws : ℕ) (keys : Keys) (handed given : BenchState) (status : Status) (s : ReplayState) (script : ScriptValue)
      → (r : RunsSource of_file of_port image Reliable left_old left_new held_old held_new w drew draws keys handed given status) → BeginsWith keys (applications_of script) handed s
      → script_of (r.0).taken ≡ Ok script → AlterNothing (script_acts script) → FindsLeft (applications_of script) s r.0

  -- A script that is run, and arms and alters nothing, is done or wants memory, unless its quotas are over-committed: its bench was quiet and was
  -- opened, and no draw fails.
  abbrev pub QuietRunsEnd : Type 0
  QuietRunsEnd =
      (left_old left_new held_old held_new : Option (List ℕ)) (drew draws : ℕ) (keys : Keys) (handed given : BenchState) (status : Status) (s : ReplayState) (script : ScriptValue)
      → (r : RunsSource of_file of_port image Reliable left_old left_new held_old held_new w drew draws keys handed given status) → HoldsUntainted keys handed s → script_of (r.0).taken ≡ Ok script
      → (r.0).start ≡ None → IsQuiet keys handed → Reliable → (Rose drew draws → ⊥) → ArmNothing (script_acts script)
      → AlterNothing (script_acts script)
      → RunsItsScript status → ((sum : ℕ) → status ≡ OverCommitted sum → ⊥) → IsDoneOrStarved status
