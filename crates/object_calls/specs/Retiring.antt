-- Slots that were taken in for good, and the files that came out of them.
use Rattle.std.specs.Prelude.{◌≡◌, ◌<◌, ◌+◌, ℕ, All, Contains, List, Some}
use Rattle.disk_model.specs.State.{FileState}
use Rattle.tee_types.specs.Limits.{IsObjectFile}
use Rattle.store_model.specs.History.{AreNumbered}
use Rattle.store_model.specs.Record.{events_of}
use Rattle.history_seats.specs.Rule.{SlotFits}
use Rattle.history_seats.specs.Tags.{AreTagged}
use Rattle.history_seats.specs.Views.{GateView, Sight, SlotView}
use Rattle.core_laws.specs.Stores.{Store}
use Rattle.serial_calls.specs.GuardedSlots.{IsSlotOf}
use Rattle.serial_calls.specs.SlotValues.{SlotValue}
use Rattle.object_calls.specs.OpeningFiles.{files_of}

-- each slot is of a file of an object
abbrev pub AreObjectSlots : List SlotValue → Type 0
AreObjectSlots slots = All (λ slot. IsObjectFile slot.number) slots

-- Each session's events have their numbers in order, and faults and commits have their tags.
pub record AreRecorded (view : GateView) : Type 0 where
  pub numbered : AreNumbered (events_of view.all)
  pub tagged : AreTagged view.all

-- The slot's seat agreed with the gate.
pub record IsRetired (store : Store) (view : GateView) (slot : SlotValue) : Type 0 where
  pub seat : Sight SlotView
  pub is : slot.seat ≡ Some seat
  pub own : IsSlotOf store slot.number slot.file seat
  pub fits : SlotFits view seat.knows

-- File n, as it was left, came out of a slot of these, which has that number and whose seat agreed with the gate.
pub record IsPlaced (store : Store) (view : GateView) (slots : List SlotValue) (n : ℕ) (left : FileState) : Type 0 where
  pub slot : SlotValue
  pub among : Contains slots slot
  pub number : slot.number ≡ n
  pub file : left ≡ slot.file
  pub seat : Sight SlotView
  pub is : slot.seat ≡ Some seat
  pub own : IsSlotOf store n left seat
  pub fits : SlotFits view seat.knows

-- so each of the first so many files, file 1 first
abbrev pub ArePlaced : {F : Type 0} → Store → GateView → List SlotValue → (F → FileState) → (count : ℕ) → List F → Type 0
ArePlaced store view slots state count files = (i : ℕ) → i < count → IsPlaced store view slots (i + 1) (files_of state files i)
