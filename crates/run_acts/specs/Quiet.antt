-- A phase on devices that do not fail: the machine answers each of its calls.
use Rattle.std.specs.Prelude.{◌<◌, ◌-◌, ◌^◌, ◌⊎◌, ℕ, List, [], ◌∷◌, IsTrue}
use Rattle.disk_model.specs.State.{FileState}
use Rattle.hmac_keys.specs.declared.Keys.{Keys}
use Rattle.hmac_keys.specs.KeyTable.{rpmb_key}
use Rattle.tee_types.specs.Limits.{file_count}
use Rattle.rpmb_card.specs.Port.{PortState}
use Rattle.rpmb_host.specs.Honest.{HadCard}
use Rattle.app_quota.specs.declared.quotas.Quota.{Quota}
use Rattle.store_model.specs.declared.event.Event.{Event}
use Rattle.store_model.specs.declared.event.Event.TheVariants.{Call as CallEvent, Landed}
use Rattle.store_model.specs.Legal.{IsAnswered, IsSpent}
use Rattle.store_model.specs.Object.{ObjectMap}
use Rattle.store_model.specs.Record.{Record, file_of}
use Rattle.store_model.specs.ReplayState.{ReplayState, opening, replay_after}
use Rattle.core_laws.specs.Stores.{phase_of}
use Rattle.script_text.specs.declared.script.Arm.{Arm}
use Rattle.script_text.specs.declared.script.Mode.{Mode}
use Rattle.script_text.specs.declared.script.Step.{Step}
use Rattle.object_calls.specs.FinishedPhase.{AreAllHonest}
use Rattle.run_acts.specs.Benches.{BenchState}
use Rattle.run_acts.specs.Opens.{OpensBench}
use Rattle.run_acts.specs.Phases.{RunsPhase}
use Rattle.run_acts.specs.declared.refused_call.RefusedCall.{RefusedCall}

-- A file that fails only for want of memory, and whose counts are below the last value of 64 bits.
pub record IsQuietFile (file : FileState) : Type 0 where
  pub calm : IsTrue file.calm
  pub faults : file.faults < 2 ^ 64 - 1
  pub starved : file.starved < 2 ^ 64 - 1

-- So is each file of the bench; and the port to the card, which tells one that has the key.
pub record IsQuiet (keys : Keys) (bench : BenchState) : Type 0 where
  pub files : (file : ℕ) → file < file_count → IsQuietFile (bench.files file)
  pub calm : IsTrue bench.card.calm
  pub faults : bench.card.faults < 2 ^ 64 - 1
  pub card : HadCard bench.card (rpmb_key keys.huk)

-- A quiet bench that is opened is quiet, whether its store was found or it was formatted.
abbrev pub OpeningsStayQuiet : Type 0
OpeningsStayQuiet = (keys : Keys) (old new : BenchState) → OpensBench keys old new → IsQuiet keys old → IsQuiet keys new

-- The event is that of a call, which has the machine's reply where the replay stands; or a commit was due, and the card's counter is at its
-- end.
abbrev pub IsOfMachine : ReplayState → Event → Type 0
IsOfMachine s (CallEvent session number call reply mark) = IsAnswered s session call reply mark ⊎ IsSpent s session call reply mark
IsOfMachine s (Landed commit) = ⊥

-- so is each event of these records
abbrev pub AreOfMachine : {Root : Type 0} → ReplayState → List (Record Root) → Type 0
AreOfMachine s [] = Unit {0}
AreOfMachine s (r ∷ records) = IsOfMachine s r.event × AreOfMachine (replay_after s r.event (file_of r)) records

module _ {F R : Type 0} (of_file : F → FileState) (of_port : R → PortState) (Reliable : Type 0) where
  -- the machine answers each call of the phase, but for commits where the counter is at its end
  abbrev pub IsPhaseOfMachine : (keys : Keys) (applications : List (List ℕ)) (quotas : List Quota) (arms : List Arm) (mode : Mode) (calls : List Step) (old new : BenchState) (objects : ObjectMap) (events : List Event)
      (refused : List RefusedCall) → RunsPhase of_file of_port Reliable keys applications quotas arms mode calls old new objects events refused → Type 0
  IsPhaseOfMachine keys applications quotas arms mode calls old new objects events refused r = AreOfMachine (opening (phase_of (r.serves).store)) (((r.serves).closes).view).all

  -- A phase of a quiet bench for which nothing is armed, whose generator never fails, and that leaves every file honest: it is the machine's.
  abbrev pub QuietPhasesAreOfMachine : Type 0
  QuietPhasesAreOfMachine =
      (keys : Keys) (applications : List (List ℕ)) (quotas : List Quota) (mode : Mode) (calls : List Step) (old new : BenchState) (objects : ObjectMap) (events : List Event)
      (refused : List RefusedCall)
      → (r : RunsPhase of_file of_port Reliable keys applications quotas [] mode calls old new objects events refused) → IsQuiet keys old → Reliable → AreAllHonest new.files
      → IsPhaseOfMachine keys applications quotas [] mode calls old new objects events refused r

  -- It leaves the bench quiet.
  abbrev pub QuietPhasesStayQuiet : Type 0
  QuietPhasesStayQuiet =
      (keys : Keys) (applications : List (List ℕ)) (quotas : List Quota) (mode : Mode) (calls : List Step) (old new : BenchState) (objects : ObjectMap) (events : List Event)
      (refused : List RefusedCall)
      → RunsPhase of_file of_port Reliable keys applications quotas [] mode calls old new objects events refused → IsQuiet keys old → IsQuiet keys new
