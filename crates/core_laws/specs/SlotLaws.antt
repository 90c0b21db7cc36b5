-- What keeps a slot's fact: its own steps, a seat that sees more, and the events of its own object.
use Rattle.std.specs.Prelude.{◌≡◌, false, Some, IsTrue}
use Rattle.hmac_keys.specs.declared.Keys.{Keys}
use Rattle.store_model.specs.declared.event.Event.{Event}
use Rattle.store_model.specs.declared.event.Event.TheVariants.{Call as CallEvent, Landed}
use Rattle.store_model.specs.declared.event.Mark.{Mark}
use Rattle.store_model.specs.declared.event.Mark.TheVariants.{Unchanged, Made, Doubtful}
use Rattle.history_seats.specs.Records.{Version}
use Rattle.history_seats.specs.Settling.{is_landing}
use Rattle.history_seats.specs.Tags.{HasRightTag}
use Rattle.history_seats.specs.Changes.{TagVersions, record_of, slot_renewed, with_record}
use Rattle.history_seats.specs.Rule.{IsSound, SlotFits}
use Rattle.history_seats.specs.Views.{GateView}
use Rattle.core_laws.specs.SlotParts.{SlotHolds, SlotPart, VersionStands}
use Rattle.core_laws.specs.SlotSteps.{FileUser, SlotSteps}

-- A slot's own steps keep its fact.
abbrev pub SlotStepsKeep : Type 0
SlotStepsKeep = (keys : Keys) (user : FileUser) (old new : SlotPart) → SlotHolds keys old → SlotSteps user old new → SlotHolds keys new

-- So does a seat that sees the whole history.
abbrev pub RenewedSlotsHold : Type 0
RenewedSlotsHold = (keys : Keys) (gate : GateView) (slot : SlotPart) → SlotFits gate slot.view → SlotHolds keys slot → SlotHolds keys (record slot { view = slot_renewed gate slot.view })

-- the version that an event with that mark makes known: its commit left it, or leaves it in doubt
abbrev pub IsMadeKnown : Mark → TagVersions → Version → Type 0
IsMadeKnown Unchanged versions v = ⊥
IsMadeKnown (Made commit) versions v = versions.committed ≡ Some v
IsMadeKnown (Doubtful commit) versions v = versions.doubted ≡ Some v

abbrev pub IsNewlyKnown : Event → TagVersions → Version → Type 0
IsNewlyKnown (CallEvent session number call reply mark) versions v = IsMadeKnown mark versions v
IsNewlyKnown (Landed commit) versions v = ⊥

-- An event of the slot's object keeps it, where the version that it makes known stands in the file.
abbrev pub OwnEventsKeep : Type 0
OwnEventsKeep =
    (keys : Keys) (gate : GateView) (slot : SlotPart) (event : Event) (versions : TagVersions) → IsSound gate → SlotFits gate slot.view → is_landing event ≡ false
    → HasRightTag slot.view.mounted gate.all (record_of event (Some slot.view) versions)
    → (IsTrue slot.file.honest → (v : Version) → IsNewlyKnown event versions v → VersionStands keys slot.file v) → SlotHolds keys slot
    → SlotHolds keys (record slot { view = slot_renewed (with_record (record_of event (Some slot.view) versions) gate) slot.view })
