-- The slot of a commit that is brought to the gate.
use Rattle.std.specs.Prelude.{IsTrue, None, Ok, Option, Some, ◌≡◌}
use Rattle.core_laws.specs.Masked.{StandsMasked}
use Rattle.core_laws.specs.SlotParts.{VersionStands}
use Rattle.history_seats.specs.Changes.{TagVersions, slot_renewed, together}
use Rattle.history_seats.specs.Records.{Version}
use Rattle.history_seats.specs.Rule.{Agrees, IsSound, SlotFits}
use Rattle.history_seats.specs.Settling.{calm}
use Rattle.history_seats.specs.Views.{GateView, PassView, Sight, SlotView}
use Rattle.object_slots.specs.KnownFor.{own_version}
use Rattle.object_slots.specs.GuardedSlots.{SlotInvariant}
use Rattle.object_slots.specs.SlotObjects.{IsOfVersion}
use Rattle.object_slots.specs.GuardedStages.{IsStagedSlot, StagesVersion, VersionChange}
use Rattle.node_image.specs.declared.node.RootRef.{RootRef}
use Rattle.call_steps.specs.StagedVersions.{IsStagedVersion, change_versions}
use Rattle.object_slots.specs.SlotValues.{IsHolding, SlotValue, with_stage, without_stage}
use Rattle.core_laws.specs.Decodings.{IsReal}
use Rattle.core_laws.specs.Stores.{Store}

-- With its seat and without its stage the slot may stand behind its lock, and holds what is of the committed version. With the stage adopted it
-- holds what is of the version that the commit leaves, which is real, and stands in the file while that is honest, and with the masks over it
-- that the file tells.
pub record IsCommittableSlot (store : Store) (slot : SlotValue) (seat : Sight SlotView) (versions : TagVersions) : Type 0 where
  pub settled : slot.doubt ≡ None
  pub before : SlotInvariant store (record slot { seat = Some seat; holds = without_stage slot.holds })
  pub held : IsOfVersion store.keys slot.file (without_stage slot.holds) versions.committed
  pub after : IsOfVersion store.keys slot.file (with_stage slot.holds) versions.doubted
  pub real : (v : Version) → versions.doubted ≡ Some v → IsReal store.keys v
  pub stands : IsTrue slot.file.honest → (v : Version) → versions.doubted ≡ Some v → VersionStands store.keys slot.file v
  pub masked : (v : Version) → versions.doubted ≡ Some v → StandsMasked store.keys slot.file v

-- The seat sees the whole history, which is as the seats' rule has it.
pub record SeesWhole (knows : GateView) (seat : Sight SlotView) : Type 0 where
  pub sound : IsSound knows
  pub fits : SlotFits knows seat.knows
  pub whole : slot_renewed knows seat.knows ≡ seat.knows

-- A slot with a stage is brought so.
abbrev pub StagedSlotsAreCommittable : Type 0
StagedSlotsAreCommittable =
    (store : Store) (slot : SlotValue) (seat : Sight SlotView) (v next : Version) → IsStagedSlot store (record slot { seat = Some seat }) next
    → own_version seat.knows ≡ calm (Some v) → IsCommittableSlot store slot seat (change_versions v next)

-- So it is of a seat that is shown the whole history.
abbrev pub ShownSeatsSeeWhole : Type 0
ShownSeatsSeeWhole =
    (knows : GateView) (seat : Sight SlotView) (pass : Option PassView) → Agrees (together knows (Some seat.knows) pass)
    → SeesWhole knows (record seat { knows = slot_renewed knows seat.knows })

-- A change that was staged left such a version, of which the slot has the stage.
abbrev pub StagesAreVersions : Type 0
StagesAreVersions =
    (store : Store) (slot : SlotValue) (v : Version) (change : VersionChange) (root : RootRef) → StagesVersion store slot v change (Ok root) → IsHolding slot.holds
    → (next : Version) × IsStagedSlot store slot next × IsStagedVersion store.keys slot.file v next change root
