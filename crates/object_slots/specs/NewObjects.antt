-- What making a new object in a locked slot's file leaves, in terms of its version.
use Rattle.std.specs.Prelude.{◌≡◌, ℕ, List, length, Some, Result, Ok, Err}
use Rattle.node_image.specs.declared.node.RootRef.{RootRef}
use Rattle.store_model.specs.Object.{Sound}
use Rattle.object_file.specs.DeviceKeys.{object_key}
use Rattle.history_seats.specs.Records.{Version}
use Rattle.history_seats.specs.Views.{Sight, SlotView}
use Rattle.core_laws.specs.SlotParts.{Knows}
use Rattle.core_laws.specs.Stores.{Store}
use Rattle.object_slots.specs.declared.fault.SlotFault.{SlotFault}
use Rattle.object_slots.specs.Makes.{new_contents}
use Rattle.object_slots.specs.SlotValues.{SlotValue}
use Rattle.object_slots.specs.GuardedSlots.{SlotInvariant}
use Rattle.object_slots.specs.GuardedStages.{IsStagedSlot}

-- the slot's view knows no version of its file
abbrev pub KnowsNothing : SlotValue → Type 0
KnowsNothing slot = (seat : Sight SlotView) → slot.seat ≡ Some seat → (v : Version) → Knows seat.knows v → ⊥

-- The version is the one that the reference names, of that application: the new object, whatever the file is.
pub record IsNewVersion (next : Version) (app attributes bytes : List ℕ) (root : RootRef) : Type 0 where
  pub root_is : next.root ≡ root
  pub app_is : next.app ≡ app
  pub size : next.size ≡ length bytes
  pub long : next.attributes ≡ length attributes
  pub object : next.object ≡ Sound (new_contents attributes bytes)

abbrev pub NewLeaves : Store → (new : SlotValue) → (tsk attributes bytes : List ℕ) → Result RootRef SlotFault → Type 0
NewLeaves store new tsk attributes bytes (Ok root) =
    (app : List ℕ) → tsk ≡ object_key store.keys app → (next : Version) × IsStagedSlot store new next × IsNewVersion next app attributes bytes root
NewLeaves store new tsk attributes bytes (Err fault) = SlotInvariant store new
