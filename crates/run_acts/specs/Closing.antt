-- A store that was served, and closed.
use Rattle.std.specs.Prelude.{◌≡◌, ◌<◌, ℕ, List, [], length, Option}
use Rattle.disk_model.specs.Calls.{GoesOn}
use Rattle.hmac_keys.specs.KeyTable.{rpmb_key}
use Rattle.tee_types.specs.Limits.{directory_file, file_count}
use Rattle.tee_types.specs.declared.reply.Device.{Device}
use Rattle.tee_types.specs.declared.reply.Device.TheVariants.{Card, Dir, Entropy, File}
use Rattle.store_model.specs.declared.event.Event.{Event}
use Rattle.store_model.specs.Record.{events_of}
use Rattle.history_seats.specs.Views.{GateView}
use Rattle.core_laws.specs.Stores.{Store}
use Rattle.script_text.specs.declared.script.Mode.{Mode}
use Rattle.script_text.specs.declared.script.Step.{Step}
use Rattle.quota_store.specs.Cards.{TellsCard}
use Rattle.quota_store.specs.DeviceCounts.{Rise, counts_of, draws_of}
use Rattle.quota_store.specs.Devices.{PortGoesOn}
use Rattle.object_calls.specs.OpeningArms.{IsOnBench}
use Rattle.object_calls.specs.FinishedPhase.{LeavesStore}
use Rattle.run_acts.specs.Benches.{BenchState}
use Rattle.run_acts.specs.ServedSteps.{ServesFront, ServesSteps}

-- how many faults a device of the bench counted
abbrev pub faults_on : BenchState → Device → ℕ
faults_on bench Dir = (bench.files directory_file).faults
faults_on bench (File number) = (bench.files number).faults
faults_on bench Card = bench.card.faults
faults_on bench Entropy = 0

-- What is known of the devices goes on: honesty is only lost, a calm file counted a fault only where it found no memory, and a calm port none.
pub record BenchGoesOn (key : List ℕ) (old new : BenchState) : Type 0 where
  pub files : (file : ℕ) → file < file_count → GoesOn (old.files file) (new.files file)
  pub card : PortGoesOn key old.card new.card

-- The calls were made and the store was closed. Its devices were those before the first call. `Reliable` says that no generator of its
-- sessions ever fails.
pub record ClosesStore (Reliable : Type 0) (store : Store) (before : BenchState) (mode : Mode) (calls : List Step) (closed : BenchState) (events : List Event) : Type 0 where
  -- its history, in which each call is, once, and in the order that the mode asks
  pub view : GateView
  pub events_are : events ≡ events_of view.all
  pub serves : ServesSteps mode calls events
  -- what it leaves: the history is legal, and every picture of the devices mounts to the objects that it leaves
  pub doubt : Option ℕ
  pub leaves : LeavesStore store view closed.files closed.card doubt
  -- each count that a reply carries is of a fault that the device counted in the phase
  pub counted : (device : Device) → IsOnBench device → Rise (faults_on before device) (faults_on closed device) (counts_of device events)
  pub devices : BenchGoesOn (rpmb_key store.keys.huk) before closed
  -- over a card that has the key no reply carries a frame or its result, and a doubt cost two counts
  pub card : TellsCard (rpmb_key store.keys.huk) before.card events
  -- each count that a reply carries for a session's entropy rose above the one before it, and none is carried for one that never fails
  pub drawn : (session : ℕ) → session < length store.mounted.applications → (last : ℕ) × Rise 0 last (draws_of session events)
  pub undrawn : Reliable → (session : ℕ) → session < length store.mounted.applications → draws_of session events ≡ []

-- Memory ran out: the store was closed before it was served, or behind some of these calls. Then the history of these is legal, and every
-- picture of the devices mounts to what it leaves.
pub data ClosesEarly (store : Store) (before : BenchState) (mode : Mode) (calls : List Step) (closed : BenchState) : Type 0 where
  unserved : closed ≡ before → ClosesEarly store before mode calls closed
  served : (view : GateView) (doubt : Option ℕ) → ServesFront mode calls (events_of view.all) → LeavesStore store view closed.files closed.card doubt
      → BenchGoesOn (rpmb_key store.keys.huk) before closed → ClosesEarly store before mode calls closed
