-- What an event of a slot's own object leaves of the slot, once it is appended and the slot's seat sees it.
use Rattle.std.specs.Prelude.{◌≡◌, ℕ, false, length, Some, None, IsTrue}
use Rattle.disk_model.specs.State.{FileState}
use Rattle.store_model.specs.declared.event.Event.{Event}
use Rattle.store_model.specs.declared.event.Mark.TheVariants.{Unchanged, Made, Doubtful}
use Rattle.history_seats.specs.Numbers.{is_in}
use Rattle.history_seats.specs.Records.{HistoryRecord, Version}
use Rattle.history_seats.specs.Settling.{HasMark, is_landing}
use Rattle.history_seats.specs.Tags.{HasRightTag}
use Rattle.history_seats.specs.Changes.{TagVersions, record_of, slot_renewed, with_record}
use Rattle.history_seats.specs.Rule.{IsSound, SlotFits}
use Rattle.history_seats.specs.Views.{GateView, Sight, SlotView}
use Rattle.core_laws.specs.SlotLaws.{IsNewlyKnown}
use Rattle.core_laws.specs.SlotParts.{VersionStands}
use Rattle.core_laws.specs.TamperScenarios.{TamperScenario}
use Rattle.core_laws.specs.Decodings.{IsReal}
use Rattle.core_laws.specs.Masked.{StandsMasked}
use Rattle.core_laws.specs.Stores.{Store}
use Rattle.core_laws.specs.Answered.{AreAnswered, IsLegalAt}
use Rattle.object_slots.specs.SlotValues.{Holding, SlotValue, with_stage, without_stage}
use Rattle.object_slots.specs.SlotObjects.{IsOfVersion}
use Rattle.object_slots.specs.KnownFor.{own_version}
use Rattle.object_slots.specs.GuardedSlots.{SlotInvariant, IsSlotOf}

-- the record of the event, with the tag of the slot
abbrev pub own_record : Sight SlotView → Event → TagVersions → HistoryRecord
own_record seat event versions = record_of event (Some seat.knows) versions

-- the seat, once the event is appended
abbrev pub seat_after : GateView → Sight SlotView → Event → TagVersions → Sight SlotView
seat_after gate seat event versions = record seat { knows = slot_renewed (with_record (own_record seat event versions) gate) seat.knows }

-- The event is of the slot's object: its tag is right, the version that it makes known is real and stands in the file while that is honest;
-- and the event is legal while the file is honest, under each tamper scenario in which it is.
pub record IsOwnEvent (store : Store) (gate : GateView) (number : ℕ) (file : FileState) (seat : Sight SlotView) (event : Event) (versions : TagVersions) : Type 0 where
  pub sound : IsSound gate
  pub fits : SlotFits gate seat.knows
  pub on_a_call : is_landing event ≡ false
  pub right : HasRightTag seat.knows.mounted gate.all (own_record seat event versions)
  pub real : (v : Version) → IsNewlyKnown event versions v → IsReal store.keys v
  pub stands : IsTrue file.honest → (v : Version) → IsNewlyKnown event versions v → VersionStands store.keys file v
  pub masked : (v : Version) → IsNewlyKnown event versions v → StandsMasked store.keys file v
  pub legal : IsTrue file.honest → (scenario : TamperScenario) → is_in number scenario.tampered ≡ false → AreAnswered store scenario gate.all
      → IsLegalAt store scenario gate.all (own_record seat event versions)

-- An event that changes nothing, whose tag names the version that stands, leaves what is held as it is, in doubt or not; where the seat has
-- seen the whole history.
abbrev pub UnchangedEventsKeepSlots : Type 0
UnchangedEventsKeepSlots =
    (store : Store) (gate : GateView) (slot : SlotValue) (seat : Sight SlotView) (event : Event) (versions : TagVersions) → slot.seat ≡ Some seat
    → slot_renewed gate seat.knows ≡ seat.knows → IsOwnEvent store gate slot.number slot.file seat event versions → HasMark Unchanged event
    → versions.committed ≡ (own_version seat.knows).now → SlotInvariant store slot → SlotInvariant store (record slot { seat = Some (seat_after gate seat event versions) })

-- Behind a commit that was made the slot holds what is of the version that the tag names.
abbrev pub MadeEventsKeepSlots : Type 0
MadeEventsKeepSlots =
    (store : Store) (gate : GateView) (slot : SlotValue) (seat : Sight SlotView) (event : Event) (versions : TagVersions) (commit : ℕ) (holds : Holding)
    → IsSlotOf store slot.number slot.file seat → IsOwnEvent store gate slot.number slot.file seat event versions → HasMark (Made commit) event
    → IsOfVersion store.keys slot.file holds versions.committed
    → SlotInvariant store (record slot { seat = Some (seat_after gate seat event versions); holds = holds; doubt = None })

-- Behind a commit in doubt it holds what is of the committed version, and, with its stage adopted, of the one in doubt.
abbrev pub DoubtfulEventsKeepSlots : Type 0
DoubtfulEventsKeepSlots =
    (store : Store) (gate : GateView) (slot : SlotValue) (seat : Sight SlotView) (event : Event) (versions : TagVersions) (commit : ℕ)
    → IsSlotOf store slot.number slot.file seat → IsOwnEvent store gate slot.number slot.file seat event versions → HasMark (Doubtful commit) event
    → IsOfVersion store.keys slot.file (without_stage slot.holds) versions.committed → IsOfVersion store.keys slot.file (with_stage slot.holds) versions.doubted
    → SlotInvariant store (record slot { seat = Some (seat_after gate seat event versions); doubt = Some (length gate.all) })
