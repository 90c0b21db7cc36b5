-- A slot that gets a new seat.
use Rattle.std.specs.Prelude.{None, Some, ℕ, ◌+◌, ◌<◌, ◌≡◌}
use Rattle.history_seats.specs.Changes.{with_slot_out}
use Rattle.history_seats.specs.Numbers.{without}
use Rattle.history_seats.specs.Views.{GateView, Sight, SlotView}
use Rattle.call_steps.specs.GuardedGates.{GuardedGateValue}
use Rattle.call_steps.specs.GuardedSlots.{SlotInvariant}
use Rattle.call_steps.specs.CommittableSlots.{SeesWhole}
use Rattle.call_steps.specs.SlotValues.{IsFree, SlotValue, without_stage}
use Rattle.rpmb_card.specs.Protocol.{last_counter}
use Rattle.core_laws.specs.Stores.{Store}

-- the gate's view once the seat of that file was taken in for good, and a new one was split
abbrev pub file_reseated : Store → (file : ℕ) → GateView → GateView
file_reseated store file knows = with_slot_out store.mounted file (record knows { files = without file knows.files })

abbrev pub reseated : {F R : Type 0} → Store → (file : ℕ) → GuardedGateValue F R → GuardedGateValue F R
reseated store file g = record g { journal = record g.journal { knows = file_reseated store file g.journal.knows } }

-- the slot without the object that was made in it
abbrev pub unmade : SlotValue → SlotValue
unmade slot = record slot { holds = without_stage slot.holds }

-- Without the object that was made in it, the slot holds nothing and may stand behind its lock. No commit of it is in doubt.
pub record IsVacant (store : Store) (slot : SlotValue) : Type 0 where
  pub guarded : SlotInvariant store (unmade slot)
  pub vacant : IsFree (without_stage slot.holds)
  pub settled : slot.doubt ≡ None

-- So it is, and its seat sees the whole history and is of the generation that the next commit makes.
pub record IsFreshSlot (store : Store) (knows : GateView) (counter : ℕ) (slot : SlotValue) : Type 0 where
  pub empty : IsVacant store slot
  pub seat : Sight SlotView
  pub is : slot.seat ≡ Some seat
  pub sees : SeesWhole knows seat
  pub next : counter < last_counter → seat.knows.generation ≡ counter + 1
