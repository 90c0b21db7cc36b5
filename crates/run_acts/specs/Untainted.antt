-- Files that stay honest.
use Rattle.std.specs.Prelude.{◌≡◌, ◌<◌, ℕ, List, [], ◌∷◌, IsTrue}
use Rattle.disk_model.specs.State.{FileState}
use Rattle.hmac_keys.specs.declared.Keys.{Keys}
use Rattle.tee_types.specs.Limits.{directory_file, file_count}
use Rattle.rpmb_card.specs.Port.{PortState}
use Rattle.script_text.specs.declared.script.Arm.{Arm}
use Rattle.script_text.specs.declared.script.Arm.TheVariants.{Taint}
use Rattle.script_text.specs.declared.script.Mode.{Mode}
use Rattle.script_text.specs.declared.script.Step.{Step}
use Rattle.app_quota.specs.declared.quotas.Quota.{Quota}
use Rattle.store_model.specs.declared.event.Event.{Event}
use Rattle.store_model.specs.Object.{ObjectMap}
use Rattle.store_commit.specs.declared.fault.MountFault.{MountFault}
use Rattle.object_calls.specs.FinishedPhase.{AreAllHonest}
use Rattle.run_acts.specs.Alterations.{FlipsFile, RestoresFile}
use Rattle.run_acts.specs.Benches.{BenchState, EndAtLast}
use Rattle.run_acts.specs.Between.{MayCrash}
use Rattle.run_acts.specs.ListedBenches.{ListsBench}
use Rattle.run_acts.specs.MountedDevices.{IsMountRefused}
use Rattle.run_acts.specs.Opens.{OpensBench}
use Rattle.run_acts.specs.Phases.{RunsPhase}
use Rattle.run_acts.specs.declared.refused_call.RefusedCall.{RefusedCall}

-- An honest file that tells its arms, with no mask among them.
pub record IsUntainted (file : FileState) : Type 0 where
  pub honest : IsTrue file.honest
  pub tells_arms : IsTrue file.tells_arms
  pub none : file.arms.taints ≡ []

-- So is each file of a bench, and there is none past the last.
pub record AreUntainted (files : ℕ → FileState) : Type 0 where
  pub each : (file : ℕ) → file < file_count → IsUntainted (files file)
  pub past : EndAtLast files

-- none of these arms is a mask
abbrev pub ArmNoMask : List Arm → Type 0
ArmNoMask [] = Unit {0}
ArmNoMask (Taint file call at mask ∷ arms) = ⊥
ArmNoMask (arm ∷ arms) = ArmNoMask arms

-- They are honest.
abbrev pub UntaintedFilesAreHonest : Type 0
UntaintedFilesAreHonest = (files : ℕ → FileState) → AreUntainted files → AreAllHonest files

-- They stay untainted in a crash, or in none.
abbrev pub CrashesStayUntainted : Type 0
CrashesStayUntainted = (old new : BenchState) → AreUntainted old.files → MayCrash old new → AreUntainted new.files

-- And where one of them is put back, or a mask is laid over it between two phases: its bytes are named anew, though they need not be those
-- that were left.
abbrev pub RestoresStayUntainted : Type 0
RestoresStayUntainted = (file : ℕ) (bytes : List ℕ) (old new : BenchState) → RestoresFile file bytes old new → AreUntainted old.files → AreUntainted new.files

abbrev pub FlipsStayUntainted : Type 0
FlipsStayUntainted = (file at : ℕ) (mask : List ℕ) (old new : BenchState) → FlipsFile file at mask old new → AreUntainted old.files → AreUntainted new.files

-- And where the bench is opened, whether its store was found or it was formatted.
abbrev pub OpeningsStayUntainted : Type 0
OpeningsStayUntainted = (keys : Keys) (old new : BenchState) → OpensBench keys old new → AreUntainted old.files → AreUntainted new.files

-- The directory's file stays honest where a mount is refused.
abbrev pub RefusalsStayHonest : Type 0
RefusalsStayHonest =
    (keys : Keys) (old new : BenchState) (drew draws : ℕ) (fault : MountFault) → AreUntainted old.files → IsMountRefused keys old new drew draws fault → IsTrue (new.files directory_file).honest

module _ {F R : Type 0} (of_file : F → FileState) (of_port : R → PortState) where
  -- They stay untainted in a phase that arms no mask.
  abbrev pub PhasesStayUntainted : (Reliable : Type 0) → Type 0
  PhasesStayUntainted Reliable =
      (keys : Keys) (applications : List (List ℕ)) (quotas : List Quota) (arms : List Arm) (mode : Mode) (calls : List Step) (old new : BenchState) (opening : ObjectMap) (events : List Event)
      (refused : List RefusedCall)
      → RunsPhase of_file of_port Reliable keys applications quotas arms mode calls old new opening events refused → ArmNoMask arms → AreUntainted old.files → AreUntainted new.files

  -- And in a list.
  abbrev pub ListsStayUntainted : Type 0
  ListsStayUntainted =
      (keys : Keys) (old new : BenchState) (objects : ObjectMap) (lines : List ℕ) → ListsBench of_file of_port keys old new objects lines → AreUntainted old.files → AreUntainted new.files
