-- Why a phase was given up, and what is then left of the bench.
use Rattle.std.specs.Prelude.{◌≡◌, ◌⊎◌, ℕ, List}
use Rattle.disk_model.specs.State.{FileState}
use Rattle.hmac_keys.specs.declared.Keys.{Keys}
use Rattle.rpmb_card.specs.Port.{PortState}
use Rattle.core_laws.specs.Stores.{Store}
use Rattle.script_text.specs.declared.script.Arm.{Arm}
use Rattle.script_text.specs.declared.script.Mode.{Mode}
use Rattle.script_text.specs.declared.script.Step.{Step}
use Rattle.store_commit.specs.declared.fault.MountFault.{MountFault}
use Rattle.store_commit.specs.declared.fault.MountFault.TheVariants.{NoMemory}
use Rattle.object_calls.specs.OpenedStores.{IsStoreOf}
use Rattle.object_calls.specs.Opening.{OpeningValue}
use Rattle.run_acts.specs.Benches.{BenchState, HadMemory, KeepsDevices, opening_state}
use Rattle.run_acts.specs.Closing.{ClosesEarly}
use Rattle.run_acts.specs.MountedDevices.{IsMounted, IsMountRefused, objects_in}
use Rattle.run_acts.specs.PhaseArms.{ArmsFront, IsReady}
use Rattle.run_acts.specs.Disarming.{Disarms}

module _ {F R : Type 0} (of_file : F → FileState) (of_port : R → PortState) where
  -- The store was ready to be served, and closed before a call was made or behind some calls.
  pub record ServesInPart (keys : Keys) (applications : List (List ℕ)) (arms : List Arm) (mode : Mode) (calls : List Step) (opened : OpeningValue F R) (closed : BenchState) : Type 0 where
    pub armed : OpeningValue F R
    pub ready : IsReady of_file of_port applications arms opened armed
    pub store : Store
    pub is_store : IsStoreOf of_file store armed
    pub keys_are : store.keys ≡ keys
    pub opens : store.objects ≡ objects_in of_file of_port keys opened
    pub closes : ClosesEarly store (opening_state of_file of_port armed) mode calls closed

  -- What became of a store that was mounted: it was closed behind some of its arms, or it was ready.
  pub data ClosesOpened (keys : Keys) (applications : List (List ℕ)) (arms : List Arm) (mode : Mode) (calls : List Step) (opened : OpeningValue F R) (closed : BenchState) : Type 0 where
    unready : ArmsFront arms (opening_state of_file of_port opened) closed → ClosesOpened keys applications arms mode calls opened closed
    in_part : ServesInPart keys applications arms mode calls opened closed → ClosesOpened keys applications arms mode calls opened closed

  -- What memory ran out in left of the bench, but for its arms: no device was called; or its mount was refused, whatever was answered; or it
  -- was mounted, and closed. `drew` and `draws` count the draws that failed, before and after.
  pub data LeavesStarved (keys : Keys) (applications : List (List ℕ)) (arms : List Arm) (mode : Mode) (calls : List Step) (old left : BenchState) (drew draws : ℕ) : Type 0 where
    uncalled : left ≡ old → draws ≡ drew → LeavesStarved keys applications arms mode calls old left drew draws
    unmounted : (fault : MountFault) → IsMountRefused keys old left drew draws fault → KeepsDevices old left → LeavesStarved keys applications arms mode calls old left drew draws
    mounted : (opened : OpeningValue F R) → IsMounted of_file of_port keys old opened → KeepsDevices old (opening_state of_file of_port opened) → draws ≡ drew
        → ClosesOpened keys applications arms mode calls opened left → LeavesStarved keys applications arms mode calls old left drew draws

  -- Memory ran out. All arms were removed.
  pub record EndsStarved (keys : Keys) (applications : List (List ℕ)) (arms : List Arm) (mode : Mode) (calls : List Step) (old new : BenchState) (drew draws : ℕ) (fault : MountFault) : Type 0 where
    pub fault_is : fault ≡ NoMemory
    pub left : BenchState
    pub leaves : LeavesStarved keys applications arms mode calls old left drew draws
    pub disarms : Disarms left new

  -- The bench was not mounted, nothing was armed, and in no call of a file did memory run out; or memory ran out.
  abbrev pub IsGivenUp : Keys → (applications : List (List ℕ)) → (arms : List Arm) → Mode → (calls : List Step) → (old new : BenchState) → (drew draws : ℕ) → MountFault → Type 0
  IsGivenUp keys applications arms mode calls old new drew draws fault =
      (IsMountRefused keys old new drew draws fault × HadMemory old new) ⊎ EndsStarved keys applications arms mode calls old new drew draws fault
