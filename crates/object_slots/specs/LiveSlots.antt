-- What a locked slot with an object that no doubt touches holds.
use Rattle.std.specs.Prelude.{◌≡◌, Some, None}
use Rattle.history_seats.specs.Records.{Version}
use Rattle.core_laws.specs.Stores.{Store}
use Rattle.object_slots.specs.SlotValues.{IsLive, SlotValue}
use Rattle.object_slots.specs.SlotObjects.{IsOfVersion}
use Rattle.object_slots.specs.GuardedSlots.{SlotInvariant}
use Rattle.object_slots.specs.GuardedReads.{GivesVersion}

-- Its view gives a version, of which the object is.
abbrev pub LiveSlotsGiveVersions : Type 0
LiveSlotsGiveVersions =
    (store : Store) (slot : SlotValue) → SlotInvariant store slot → IsLive slot.holds → slot.doubt ≡ None
    → (v : Version) × GivesVersion slot v × IsOfVersion store.keys slot.file slot.holds (Some v)
