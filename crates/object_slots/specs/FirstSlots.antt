-- Slots as a phase begins.
use Rattle.std.specs.Prelude.{◌≡◌, ℕ, Some, None, IsTrue}
use Rattle.disk_model.specs.State.{FileState, Sound}
use Rattle.history_seats.specs.Records.{Version}
use Rattle.history_seats.specs.Versions.{version_among}
use Rattle.core_laws.specs.Opened.{first_view}
use Rattle.core_laws.specs.SlotParts.{VersionStands}
use Rattle.core_laws.specs.Decodings.{IsReal}
use Rattle.core_laws.specs.Masked.{StandsMasked, told_taints}
use Rattle.core_laws.specs.Stores.{Store}
use Rattle.object_slots.specs.SlotValues.{SlotValue, free}
use Rattle.object_slots.specs.GuardedSlots.{SlotInvariant}

-- What the mount tells of a file: a version of that generation alone, which is real, and stands in the file while that is honest.
pub record IsMountedFile (store : Store) (number generation : ℕ) (file : FileState) : Type 0 where
  pub sound : Sound file
  pub single : (other : ℕ) (v : Version) → version_among number other store.mounted.entries ≡ Some v → other ≡ generation
  pub real : (v : Version) → version_among number generation store.mounted.entries ≡ Some v → IsReal store.keys v
  pub told : told_taints file ≡ store.taints number
  pub masked : (v : Version) → version_among number generation store.mounted.entries ≡ Some v → StandsMasked store.keys file v
  pub stands : IsTrue file.honest → (v : Version) → version_among number generation store.mounted.entries ≡ Some v → VersionStands store.keys file v

-- a free slot, whose seat is as it is split before the first event
abbrev pub first_slot : Store → (number generation : ℕ) → FileState → SlotValue
first_slot store number generation file = record {
  number = number;
  seat = Some (record { table = store.table; knows = first_view store.mounted number generation });
  file = file;
  holds = free;
  doubt = None;
}

-- Such a slot may stand behind its lock.
abbrev pub FirstSlotsAreGuarded : Type 0
FirstSlotsAreGuarded =
    (store : Store) (number generation : ℕ) (file : FileState) → IsMountedFile store number generation file → SlotInvariant store (first_slot store number generation file)
