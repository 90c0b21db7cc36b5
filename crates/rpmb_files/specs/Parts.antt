-- A card store by its parts.
use Rattle.std.specs.Prelude.{◌≡◌, ◌⊎◌, ◌+◌, ◌<◌, ◌≤◌, ℕ, List, length, Option, Result, Ok, Err, IsSome, None, Some, is_none, position}
use Rattle.store_model.specs.declared.name.ObjectName.{ObjectName}
use Rattle.rpmb_card.specs.Port.{PortState}
use Rattle.card_maps.specs.declared.change.TableChange.{TableChange}
use Rattle.card_maps.specs.CardMaps.{CardMap, blocks_needed, bytes_at}
use Rattle.card_maps.specs.Course.{writes_of}
use Rattle.rpmb_card.specs.Protocol.{last_counter}
use Rattle.card_maps.specs.Plans.{IsPutOf}
use Rattle.card_maps.specs.TableStates.{TableState}
use Rattle.card_maps.specs.Tables.{entry_at, has_name, names_in, unused}
use Rattle.rpmb_files.specs.declared.fault.CardFault.{CardFault}
use Rattle.rpmb_files.specs.declared.fault.CardFault.TheVariants.{NotFound, Full, Spent, Device, NoMemory}
use Rattle.rpmb_files.specs.declared.store.Doubt.{Doubt}
use Rattle.rpmb_files.specs.Devices.{devices}
use Rattle.rpmb_files.specs.Stores.{StoreState}

abbrev pub parts : PortState → (key : List ℕ) → (draws : ℕ) → TableState → Option Doubt → StoreState
parts port key draws t doubt =
    record { devices = devices port draws; key = key; shown = names_in t.entries; settled = is_none doubt }

-- what is planned for an object of so many bytes
abbrev pub PutPlanned : TableState → (counter : ℕ) → ObjectName → (size : ℕ) → Result TableChange CardFault → Type 0
PutPlanned t counter name size (Ok change) = IsPutOf t name size change × (counter + writes_of size ≤ last_counter)
PutPlanned t counter name size (Err (Full need free)) = (free < need) × (need ≡ blocks_needed size) × (free ≡ length (unused t.used))
PutPlanned t counter name size (Err Spent) = (blocks_needed size ≤ length (unused t.used)) × (last_counter < counter + writes_of size)
PutPlanned t counter name size (Err fault) = ⊥

-- the entry of a name, the least, and where it is; or there is none
abbrev pub NamesEntry : TableState → ObjectName → Option (List ℕ) → Type 0
NamesEntry t name None = (position (has_name name) t.entries ≡ None) ⊎ ((b : ℕ) × (position (has_name name) t.entries ≡ Some b) × (entry_at t b ≡ None))
NamesEntry t name (Some block) = (b : ℕ) × (position (has_name name) t.entries ≡ Some b) × (entry_at t b ≡ Some block)

-- what a read of a name answers, by the map
abbrev pub ReadAnswers : CardMap → ObjectName → Result (List ℕ) CardFault → Type 0
ReadAnswers m name (Ok bytes) = bytes_at m name ≡ Some bytes
ReadAnswers m name (Err NotFound) = bytes_at m name ≡ None
ReadAnswers m name (Err (Device cause)) = IsSome (bytes_at m name)
ReadAnswers m name (Err NoMemory) = IsSome (bytes_at m name)
ReadAnswers m name (Err fault) = ⊥
