-- What always holds of the devices behind the locks of a store that is shared: what they counted since, and what the history tells of them.
use Rattle.std.specs.Prelude.{◌≡◌, ◌<◌, ◌++◌, ◌∷◌, ℕ, List, [], length, Some}
use Rattle.disk_model.specs.Calls.{GoesOn}
use Rattle.disk_model.specs.State.{FileState}
use Rattle.hmac_keys.specs.KeyTable.{rpmb_key}
use Rattle.tee_types.specs.Limits.{IsObjectFile}
use Rattle.rpmb_card.specs.Port.{PortState}
use Rattle.tee_types.specs.declared.reply.Device.TheVariants.{Card, Dir, File}
use Rattle.store_model.specs.declared.event.Event.{Event}
use Rattle.store_model.specs.declared.event.Event.TheVariants.{Call as CallEvent, Landed}
use Rattle.store_model.specs.Record.{events_of}
use Rattle.history_seats.specs.Views.{Sight, SlotView}
use Rattle.serial_calls.specs.Stores.{Store}
use Rattle.serial_calls.specs.SlotValues.{SlotValue}
use Rattle.serial_calls.specs.GuardedGates.{GuardedGateValue}
use Rattle.serial_calls.specs.EventCounts.{events_at}
use Rattle.serial_calls.specs.Cards.{TellsCard}
use Rattle.serial_calls.specs.DeviceCounts.{Rise, counts_of}
use Rattle.serial_calls.specs.Devices.{Devices, PortGoesOn}
use Rattle.serial_calls.specs.Slots.{AreOfObjectFiles}

-- each call is of one of the first so many sessions
abbrev pub AreOfSessions : (count : ℕ) → List Event → Type 0
AreOfSessions count [] = Unit {0}
AreOfSessions count (CallEvent session number call reply mark ∷ events) = (session < count) × AreOfSessions count events
AreOfSessions count (Landed commit ∷ events) = AreOfSessions count events

-- The directory's file and the card, which were those of `before` as the store was shared. Each call is of a session of the store, and each tag
-- names the file of an object. Each count that a reply carries for one of the two devices was counted since then, and rose above the one before
-- it.
pub record KeepsGate {F R : Type 0} (of_file : F → FileState) (of_port : R → PortState) (store : Store) (before : Devices) (gate : GuardedGateValue F R) : Type 0 where
  pub sessions : AreOfSessions (length store.mounted.applications) (events_at gate)
  pub tagged : AreOfObjectFiles gate.journal.knows.all
  pub dir : GoesOn before.dir (of_file gate.gate.dir.file)
  pub dir_counted : Rise (before.dir).faults (of_file gate.gate.dir.file).faults (counts_of Dir (events_at gate))
  pub card : PortGoesOn (rpmb_key store.keys.huk) before.card (of_port gate.gate.host.port)
  pub card_counted : Rise (before.card).faults (of_port gate.gate.host.port).faults (counts_of Card (events_at gate))
  -- over a card that has the key no reply carries a frame or its result, and a doubt cost two counts
  pub card_told : TellsCard (rpmb_key store.keys.huk) before.card (events_at gate)

-- The counts that the events which a slot saw carry for its file, and then these, lead from its count as the store was shared to its count.
abbrev pub CountsSeen : (before : Devices) → SlotValue → (then : List ℕ) → Type 0
CountsSeen before slot then =
    (seat : Sight SlotView) → slot.seat ≡ Some seat → Rise (before.file slot.number).faults slot.file.faults (counts_of (File slot.number) (events_of seat.knows.seen) ++ then)

-- An object's file. `then` are the counts that a reply carries which is not appended yet.
pub record KeepsSlot (before : Devices) (slot : SlotValue) (then : List ℕ) : Type 0 where
  pub object : IsObjectFile slot.number
  pub goes_on : GoesOn (before.file slot.number) slot.file
  pub counted : CountsSeen before slot then
