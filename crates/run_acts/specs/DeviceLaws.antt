-- What a phase leaves is what the next mount opens with, after a crash or none.
use Rattle.std.specs.Prelude.{◌≡◌, ◌⊎◌, ℕ, List, [], IsTrue}
use Rattle.disk_model.specs.State.{FileState}
use Rattle.hmac_keys.specs.declared.Keys.{Keys}
use Rattle.hmac_keys.specs.KeyTable.{rpmb_key}
use Rattle.rpmb_card.specs.Card.{CardState}
use Rattle.rpmb_card.specs.Port.{PortState}
use Rattle.rpmb_host.specs.Honest.{HasCard}
use Rattle.script_text.specs.declared.script.Arm.{Arm}
use Rattle.script_text.specs.declared.script.Mode.{Mode}
use Rattle.script_text.specs.declared.script.Step.{Step}
use Rattle.store_commit.specs.declared.fault.MountFault.{MountFault}
use Rattle.app_quota.specs.declared.quotas.Quota.{Quota}
use Rattle.store_model.specs.declared.event.Event.{Event}
use Rattle.store_model.specs.Object.{ObjectMap}
use Rattle.store_model.specs.ReplayState.{ReplayState}
use Rattle.object_calls.specs.FinishedPhase.{AreAllHonest}
use Rattle.object_calls.specs.Opening.{OpeningValue, bench_files}
use Rattle.run_acts.specs.Benches.{BenchState, KeepsDevices}
use Rattle.run_acts.specs.Crashes.{Crashes}
use Rattle.run_acts.specs.ListedBenches.{IsListRefused, ListsBench}
use Rattle.run_acts.specs.MountedDevices.{IsMounted, IsMountRefused, objects_in}
use Rattle.run_acts.specs.Opens.{FormsBench, ReadsBlock}
use Rattle.run_acts.specs.Disarming.{Disarms}
use Rattle.run_acts.specs.Phases.{RunsPhase}
use Rattle.run_acts.specs.Between.{AreReadable, AreSound, AreSteady, MayCrash}
use Rattle.run_acts.specs.Untainted.{AreUntainted, ArmNoMask}
use Rattle.run_acts.specs.Left.{AreLeft, HoldsLeft, replay_left}
use Rattle.run_acts.specs.declared.refused_call.RefusedCall.{RefusedCall}

-- a crash of all files, whatever image each takes
abbrev pub CrashesMayBe : Type 0
CrashesMayBe = (image : FileState → ℕ → ℕ → List ℕ) (seed : ℕ) (old new : BenchState) → Crashes image seed old new → MayCrash old new

-- nothing was done
abbrev pub NothingMayBe : Type 0
NothingMayBe = (bench : BenchState) → MayCrash bench bench

-- A crash leaves what the bench holds.
abbrev pub CrashesKeep : Type 0
CrashesKeep = (keys : Keys) (s : ReplayState) (old new : BenchState) → HoldsLeft keys old s → MayCrash old new → HoldsLeft keys new s

-- Once all arms were removed, a file that tells its arms is steady; a crash leaves it so.
abbrev pub DisarmedFilesAreSteady : Type 0
DisarmedFilesAreSteady =
    (old new : BenchState) → Disarms old new → ((file : ℕ) → IsTrue (new.files file).tells_arms ⊎ IsTrue (new.files file).steady) → AreSteady new.files

abbrev pub CrashesKeepSteady : Type 0
CrashesKeepSteady = (old new : BenchState) → AreSteady old.files → MayCrash old new → AreSteady new.files

-- Devices that keep their contents hold what they held, where every file is honest still.
abbrev pub KeptDevicesHold : Type 0
KeptDevicesHold = (keys : Keys) (s : ReplayState) (old new : BenchState) → HoldsLeft keys old s → KeepsDevices old new → AreAllHonest new.files → HoldsLeft keys new s

-- So a mount that is refused leaves what the bench holds.
abbrev pub RefusedMountsKeep : Type 0
RefusedMountsKeep =
    (keys : Keys) (s : ReplayState) (old new : BenchState) (drew draws : ℕ) (fault : MountFault) → HoldsLeft keys old s → IsMountRefused keys old new drew draws fault
    → AreAllHonest new.files → HoldsLeft keys new s

-- Reading the card's block leaves what the bench holds.
abbrev pub BlockReadsKeep : Type 0
BlockReadsKeep = (keys : Keys) (s : ReplayState) (old new : BenchState) (block : List ℕ) → HoldsLeft keys old s → ReadsBlock keys old new block → HoldsLeft keys new s

-- A bench that was formatted holds no objects, where every file is honest and the card was told and had the key.
abbrev pub FormedBenchesHoldNone : Type 0
FormedBenchesHoldNone =
    (keys : Keys) (applications : List (List ℕ)) (old new : BenchState) (card : CardState) → FormsBench keys old new → HasCard old.card (rpmb_key keys.huk) card
    → AreAllHonest new.files → HoldsLeft keys new (replay_left [] applications [])

module _ {F R : Type 0} (of_file : F → FileState) (of_port : R → PortState) where
  -- A phase leaves a bench that holds what its history leaves, where every file is honest still.
  abbrev pub PhasesLeave : (Reliable : Type 0) → Type 0
  PhasesLeave Reliable =
      (keys : Keys) (applications : List (List ℕ)) (quotas : List Quota) (arms : List Arm) (mode : Mode) (calls : List Step) (old new : BenchState) (opening : ObjectMap) (events : List Event)
      (refused : List RefusedCall)
      → RunsPhase of_file of_port Reliable keys applications quotas arms mode calls old new opening events refused → AreAllHonest new.files
      → HoldsLeft keys new (replay_left opening applications events)

  -- The counter from which a phase's history is legal is that of the card, where one with the key is told as the phase begins.
  abbrev pub CountersAreOfCards : (Reliable : Type 0) → Type 0
  CountersAreOfCards Reliable =
      (keys : Keys) (applications : List (List ℕ)) (quotas : List Quota) (arms : List Arm) (mode : Mode) (calls : List Step) (old new : BenchState) (opening : ObjectMap) (events : List Event)
      (refused : List RefusedCall) (card : CardState)
      → (r : RunsPhase of_file of_port Reliable keys applications quotas arms mode calls old new opening events refused) → HasCard old.card (rpmb_key keys.huk) card
      → ((r.serves).store).counter ≡ card.counter

  -- A bench is mounted with objects that it holds.
  abbrev pub MountsOpenWithLeft : Type 0
  MountsOpenWithLeft =
      (keys : Keys) (s : ReplayState) (old : BenchState) (o : OpeningValue F R) (card : CardState) → HoldsLeft keys old s → AreSound old.files
      → IsMounted of_file of_port keys old o → AreReadable old.files (bench_files of_file o) → HasCard old.card (rpmb_key keys.huk) card
      → AreLeft s (objects_in of_file of_port keys o)

  -- THE NEXT OPENING: a phase was run that armed no mask, the bench crashed or not, and it was mounted. Where no file was tainted as the
  -- phase began, the objects are those that the phase's history leaves, or those with its commit in doubt.
  abbrev pub NextOpeningsAreLeft : (Reliable : Type 0) → Type 0
  NextOpeningsAreLeft Reliable =
      (keys : Keys) (applications : List (List ℕ)) (quotas : List Quota) (arms : List Arm) (mode : Mode) (calls : List Step) (old new : BenchState) (opening : ObjectMap) (events : List Event)
      (refused : List RefusedCall)
      (between : BenchState) (o : OpeningValue F R) (card : CardState)
      → RunsPhase of_file of_port Reliable keys applications quotas arms mode calls old new opening events refused → ArmNoMask arms → AreUntainted old.files → MayCrash new between
      → AreSound between.files → IsMounted of_file of_port keys between o → HasCard new.card (rpmb_key keys.huk) card
      → AreLeft (replay_left opening applications events) (objects_in of_file of_port keys o)

  -- So the next phase opens with them.
  abbrev pub NextPhasesOpenWithLeft : (Reliable : Type 0) → Type 0
  NextPhasesOpenWithLeft Reliable =
      (keys : Keys) (applications later : List (List ℕ)) (quotas allowed : List Quota) (arms more : List Arm) (mode next : Mode) (calls others : List Step) (old new between last : BenchState)
      (opening objects : ObjectMap) (events after : List Event) (refused declined : List RefusedCall) (card : CardState)
      → RunsPhase of_file of_port Reliable keys applications quotas arms mode calls old new opening events refused → ArmNoMask arms → AreUntainted old.files → MayCrash new between
      → RunsPhase of_file of_port Reliable keys later allowed more next others between last objects after declined → HasCard new.card (rpmb_key keys.huk) card
      → AreLeft (replay_left opening applications events) objects

  -- A list shows them.
  abbrev pub ListsShowLeft : Type 0
  ListsShowLeft =
      (keys : Keys) (s : ReplayState) (old new : BenchState) (objects : ObjectMap) (lines : List ℕ) (card : CardState) → HoldsLeft keys old s
      → ListsBench of_file of_port keys old new objects lines → AreReadable old.files new.files → HasCard old.card (rpmb_key keys.huk) card
      → AreLeft s objects

  -- And it leaves what the bench holds.
  abbrev pub ListsKeep : Type 0
  ListsKeep =
      (keys : Keys) (s : ReplayState) (old new : BenchState) (objects : ObjectMap) (lines : List ℕ) (card : CardState) → HoldsLeft keys old s
      → ListsBench of_file of_port keys old new objects lines → AreAllHonest new.files → HasCard old.card (rpmb_key keys.huk) card
      → HoldsLeft keys new s

  -- So does a list that is refused.
  abbrev pub RefusedListsKeep : Type 0
  RefusedListsKeep =
      (keys : Keys) (s : ReplayState) (old new : BenchState) (drew draws : ℕ) (fault : MountFault) → HoldsLeft keys old s
      → IsListRefused of_file of_port keys old new drew draws fault → AreAllHonest new.files → HoldsLeft keys new s
