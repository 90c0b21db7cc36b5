-- The slots of the objects' files.
use Rattle.std.specs.Prelude.{Contains, List, Some, length, slice_index_or, ℕ, ◌+◌, ◌<◌, ◌≡◌}
use Rattle.tee_types.specs.Limits.{IsObjectFile, last_file}
use Rattle.history_seats.specs.Records.{HistoryRecord}
use Rattle.store_model.specs.Record.{file_of}
use Rattle.object_slots.specs.SlotValues.{SlotValue}

-- the slot at each place is that of its file, file 1 first
abbrev pub AreNumberedSlots : List SlotValue → Type 0
AreNumberedSlots slots = (i : ℕ) (d : SlotValue) → i < length slots → (slice_index_or slots i d).number ≡ i + 1

-- each tag names the file of an object
abbrev pub AreOfObjectFiles : List HistoryRecord → Type 0
AreOfObjectFiles records = (r : HistoryRecord) (file : ℕ) → Contains records r → file_of r ≡ Some file → IsObjectFile file

-- 272 slots, so numbered
pub record AreSlots (slots : List SlotValue) : Type 0 where
  pub many : length slots ≡ last_file
  pub numbered : AreNumberedSlots slots
