-- What making the calls of a phase leaves.
use Rattle.std.specs.Prelude.{ℕ, ◌≡◌, ◌<◌, List, ◌++◌, length, slice_index_or, take}
use Rattle.disk_model.specs.State.{FileState}
use Rattle.hmac_keys.specs.KeyTable.{rpmb_key}
use Rattle.rpmb_card.specs.Port.{PortState}
use Rattle.tee_types.specs.declared.reply.Device.{Device}
use Rattle.store_model.specs.declared.event.Event.{Event}
use Rattle.quota_store.specs.CallerSessions.{CallerSession}
use Rattle.script_text.specs.declared.script.Step.{Step}
use Rattle.quota_store.specs.EventCounts.{events_at}
use Rattle.quota_store.specs.Cards.{TellsCard}
use Rattle.quota_store.specs.DeviceCounts.{Rise, counts_of, draws_of}
use Rattle.quota_store.specs.Devices.{Devices, DevicesGoOn, devices_of, faults_of}
use Rattle.core_laws.specs.Stores.{Store}
use Rattle.object_calls.specs.OpeningArms.{IsOnBench}
use Rattle.object_calls.specs.Services.{ServiceValue}
use Rattle.run_acts.specs.ServedSteps.{steps_served}

-- the devices of the bench, while the store is served
abbrev pub bench_devices : {F R : Type 0} → (F → FileState) → (R → PortState) → ServiceValue F R → Devices
bench_devices of_file of_port s = devices_of of_file of_port s.gate.gate s.slots 0

module _ {F R E : Type 0} (of_file : F → FileState) (of_port : R → PortState) (draws : E → ℕ) where
  -- how many faults a device of the bench counted, while the store is served
  abbrev pub faults_at : ServiceValue F R → Device → ℕ
  faults_at s device = faults_of (bench_devices of_file of_port s) device

  -- The calls were made, one after another: each has its event, and every count that a reply carries is of a fault that was counted
  -- in its call.
  pub record MakesCalls (store : Store) (old new : ServiceValue F R) (was now : List (CallerSession E)) (calls : List Step) : Type 0 where
    pub added : List Event
    pub events : events_at new.gate ≡ events_at old.gate ++ added
    pub served : steps_served added ≡ calls
    pub counted : (device : Device) → IsOnBench device → Rise (faults_at old device) (faults_at new device) (counts_of device added)
    pub drawn : (session : ℕ) (d : CallerSession E) → session < length was
        → Rise (draws (slice_index_or was session d).entropy) (draws (slice_index_or now session d).entropy) (draws_of session added)
    -- the devices go on, and what is told of the card is so
    pub devices : DevicesGoOn (rpmb_key store.keys.huk) (bench_devices of_file of_port old) (bench_devices of_file of_port new)
    pub card : TellsCard (rpmb_key store.keys.huk) (of_port old.gate.gate.host.port) added
    pub storage_key : new.storage_key ≡ old.storage_key
    pub spare : new.spare ≡ old.spare

  -- Memory ran out in a call: so much holds of the calls before it. A commit that was in doubt may have landed in it.
  abbrev pub MakesFront : Store → (old new : ServiceValue F R) → (was now : List (CallerSession E)) → List Step → Type 0
  MakesFront store old new was now calls = (made : ℕ) × (made < length calls) × MakesCalls store old new was now (take made calls)
