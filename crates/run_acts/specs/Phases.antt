-- A phase on a bench: it is mounted, served and closed.
use Rattle.std.specs.Prelude.{◌≡◌, ℕ, List}
use Rattle.disk_model.specs.State.{FileState}
use Rattle.hmac_keys.specs.declared.Keys.{Keys}
use Rattle.rpmb_card.specs.Port.{PortState}
use Rattle.app_quota.specs.declared.quotas.Quota.{Quota}
use Rattle.store_model.specs.declared.event.Event.{Event}
use Rattle.store_model.specs.Object.{ObjectMap}
use Rattle.core_laws.specs.Stores.{Store}
use Rattle.script_text.specs.declared.script.Arm.{Arm}
use Rattle.script_text.specs.declared.script.Mode.{Mode}
use Rattle.script_text.specs.declared.script.Step.{Step}
use Rattle.object_calls.specs.OpenedStores.{IsStoreOf}
use Rattle.object_calls.specs.Opening.{OpeningValue, bench_files}
use Rattle.run_acts.specs.Benches.{BenchState, EndAtLast, HasPassed, HadMemory, IsWhole, KeepsDevices, opening_state}
use Rattle.run_acts.specs.Between.{AreSound}
use Rattle.run_acts.specs.MountedDevices.{IsMounted, objects_in}
use Rattle.run_acts.specs.PhaseArms.{IsReady}
use Rattle.run_acts.specs.Closing.{ClosesStore}
use Rattle.run_acts.specs.Disarming.{Disarms}
use Rattle.run_acts.specs.QuotaRefusals.{AreRoomFor, KeepsPhaseQuotas, admitted}
use Rattle.run_acts.specs.declared.refused_call.RefusedCall.{RefusedCall}

-- `Reliable` says that the generator of the phase never fails, nor any stream of it
module _ {F R : Type 0} (of_file : F → FileState) (of_port : R → PortState) (Reliable : Type 0) where
  -- What was done with a store that was mounted: its sessions were opened, its devices were armed, the calls were made but for those that were
  -- refused under the quotas, and it was closed.
  pub record ServesOpened (keys : Keys) (applications : List (List ℕ)) (quotas : List Quota) (arms : List Arm) (mode : Mode) (calls : List Step) (opened : OpeningValue F R) (closed : BenchState)
      (events : List Event) (refused : List RefusedCall) : Type 0 where
    -- the store, once its sessions were opened and its devices were armed; nothing else of it changed, its counter neither
    pub armed : OpeningValue F R
    pub ready : IsReady of_file of_port applications arms opened armed
    pub store : Store
    pub is_store : IsStoreOf of_file store armed
    pub keys_are : store.keys ≡ keys
    pub opens : store.objects ≡ objects_in of_file of_port keys opened
    pub closes : ClosesStore Reliable store (opening_state of_file of_port armed) mode (admitted refused calls) closed events
    pub quotas_kept : KeepsPhaseQuotas quotas store (closes.view).all calls refused

  -- What a phase was: the bench was mounted, its devices were armed, the calls were made but for those that were refused under the quotas, and
  -- the bench was disarmed.
  pub record RunsPhase (keys : Keys) (applications : List (List ℕ)) (quotas : List Quota) (arms : List Arm) (mode : Mode) (calls : List Step) (old new : BenchState) (opening : ObjectMap)
      (events : List Event) (refused : List RefusedCall) : Type 0 where
    pub opened : OpeningValue F R
    pub mounts : IsMounted of_file of_port keys old opened
    -- what holds of every file, and there is none past the last
    pub sound : AreSound old.files
    pub none : EndAtLast (bench_files of_file opened)
    -- the mount changed no bytes, and no call of it failed
    pub keeps : KeepsDevices old (opening_state of_file of_port opened)
    pub passed : HasPassed old (opening_state of_file of_port opened)
    pub objects : opening ≡ objects_in of_file of_port keys opened
    pub room : AreRoomFor quotas applications opening
    pub closed : BenchState
    pub serves : ServesOpened keys applications quotas arms mode calls opened closed events refused
    pub disarms : Disarms closed new
    pub with_memory : HadMemory old new
    -- what holds of every file then, and there is none past the last
    pub sound_left : AreSound new.files
    pub past : IsWhole new
