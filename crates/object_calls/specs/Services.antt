-- What a contract sees of a store that is served, and what always holds of it.
use Rattle.std.specs.Prelude.{◌≡◌, ◌<◌, ◌+◌, ◌≤◌, ℕ, List, length, Option, slice_index_or}
use Rattle.disk_model.specs.State.{FileState}
use Rattle.hmac_keys.specs.KeyTable.{ssk}
use Rattle.dir_records.specs.declared.entry.DirEntry.{DirEntry}
use Rattle.store_model.specs.Sound.{IsObjectMap}
use Rattle.core_laws.specs.TamperScenarios.{nothing_back}
use Rattle.core_laws.specs.Stores.{Store, objects_under}
use Rattle.serial_calls.specs.SlotValues.{SlotValue}
use Rattle.serial_calls.specs.GuardedGates.{GuardedGateValue}
use Rattle.serial_calls.specs.GuardedSlots.{SlotInvariant}
use Rattle.serial_calls.specs.FirstSlots.{first_slot}
use Rattle.object_calls.specs.Generations.{generation_in}
use Rattle.serial_calls.specs.Slots.{AreOfObjectFiles, AreSlots}
use Rattle.object_calls.specs.OpeningFiles.{files_of}

-- the gate, the slots of the files, file 1 first, the key that the applications' keys come from, and the file of an old directory
pub record ServiceValue (F R : Type 0) : Type 0 where
  pub gate : GuardedGateValue F R
  pub slots : List SlotValue
  pub storage_key : List ℕ
  pub spare : F

-- the first slot of the file at that place
abbrev pub slot_for : {F : Type 0} → Store → List (Option DirEntry) → (F → FileState) → List F → ℕ → SlotValue
slot_for store entries state files i = first_slot store (i + 1) (generation_in entries (i + 1)) (files_of state files i)

-- each such slot may stand behind its lock
abbrev pub MayBeFirst : {F : Type 0} → Store → List (Option DirEntry) → (F → FileState) → List F → Type 0
MayBeFirst store entries state files = (i : ℕ) → i < length files → SlotInvariant store (slot_for store entries state files i)

-- the first so many slots are these
abbrev pub AreFirstSlots : {F : Type 0} → Store → List (Option DirEntry) → (F → FileState) → List F → (count : ℕ) → List SlotValue → Type 0
AreFirstSlots store entries state files count slots = (i : ℕ) (d : SlotValue) → i < count → slice_index_or slots i d ≡ slot_for store entries state files i

-- Where nothing comes back, the phase opens with the store's objects, whichever files are not honest.
abbrev pub OpensUnchanged : Store → Type 0
OpensUnchanged store = (tampered : List ℕ) → objects_under store (nothing_back tampered) ≡ store.objects

-- So of a store that opened with a map of objects.
pub record HasSoundOpening (store : Store) : Type 0 where
  pub map : IsObjectMap store.objects
  pub unchanged : OpensUnchanged store

-- What always holds of a store that is served, beside what holds behind its locks.
pub record IsService {F R : Type 0} (store : Store) (gate : GuardedGateValue F R) (slots : List SlotValue) (storage_key : List ℕ) : Type 0 where
  pub slots_are : AreSlots slots
  pub tagged : AreOfObjectFiles gate.journal.knows.all
  pub keyed : storage_key ≡ ssk store.keys.huk store.keys.chip
  pub few : length store.mounted.applications ≤ 16
  pub opens : HasSoundOpening store
