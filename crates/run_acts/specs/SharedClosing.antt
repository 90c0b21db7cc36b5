-- What a store that was shared is, once it is closed.
use Rattle.std.specs.Prelude.{◌≡◌, ◌<◌, ℕ, List, [], length, Option}
use Rattle.disk_model.specs.Calls.{GoesOn}
use Rattle.disk_model.specs.State.{FileState}
use Rattle.hmac_keys.specs.KeyTable.{rpmb_key}
use Rattle.tee_types.specs.Limits.{IsObjectFile, directory_file, old_directory_file}
use Rattle.rpmb_card.specs.Port.{PortState}
use Rattle.tee_types.specs.declared.reply.Device.TheVariants.{Card, Dir, File}
use Rattle.store_model.specs.declared.event.Event.{Event}
use Rattle.store_model.specs.History.{calls_of}
use Rattle.store_model.specs.Record.{events_of}
use Rattle.history_seats.specs.Views.{GateView}
use Rattle.core_laws.specs.Stores.{Store}
use Rattle.script_text.specs.declared.script.Step.{Step}
use Rattle.quota_store.specs.Cards.{TellsCard}
use Rattle.quota_store.specs.DeviceCounts.{Rise, counts_of, draws_of}
use Rattle.quota_store.specs.Devices.{Devices, PortGoesOn}
use Rattle.object_calls.specs.FinishedPhase.{LeavesStore}
use Rattle.run_acts.specs.ServedSteps.{calls_in}

-- A store was closed behind the calls of a phase, which threads made beside each other on these devices. `Reliable` says that no generator of
-- its sessions ever fails.
pub record ClosesShared (Reliable : Type 0) (store : Store) (before : Devices) (calls : List Step) (files : ℕ → FileState) (card : PortState) (events : List Event) : Type 0 where
  -- its history, in which the calls of each application are those of the steps, in order
  pub view : GateView
  pub events_are : events ≡ events_of view.all
  pub serves : (app : ℕ) → calls_of app events ≡ calls_in app calls
  -- what it leaves: the history is legal, and every picture of the devices mounts to the objects that it leaves
  pub doubt : Option ℕ
  pub leaves : LeavesStore store view files card doubt
  -- the meanings of the devices go on, and each count that a reply carries is of a fault that its device counted in the phase
  pub dir : GoesOn before.dir (files directory_file)
  pub dir_counted : Rise (before.dir).faults (files directory_file).faults (counts_of Dir events)
  pub each : (file : ℕ) → IsObjectFile file → GoesOn (before.file file) (files file)
  pub spare : files old_directory_file ≡ before.file old_directory_file
  pub each_counted : (file : ℕ) → IsObjectFile file → Rise (before.file file).faults (files file).faults (counts_of (File file) events)
  pub port : PortGoesOn (rpmb_key store.keys.huk) before.card card
  pub port_counted : Rise (before.card).faults card.faults (counts_of Card events)
  -- over a card that has the key no reply carries a frame or its result, and a doubt cost two counts
  pub told : TellsCard (rpmb_key store.keys.huk) before.card events
  -- each count that a reply carries for a session's entropy rose above the one before it, and none is carried for one that never fails
  pub drawn : (session : ℕ) → session < length store.mounted.applications → (last : ℕ) × Rise 0 last (draws_of session events)
  pub undrawn : Reliable → (session : ℕ) → session < length store.mounted.applications → draws_of session events ≡ []
