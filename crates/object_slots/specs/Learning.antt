-- What a slot learns once its seat sees the whole history.
use Rattle.std.specs.Prelude.{◌≡◌, ◌+◌, ℕ, Bool, nat_lt, drop, Option, Some, None, if◌then◌else◌}
use Rattle.store_model.specs.declared.event.Event.{Event}
use Rattle.history_seats.specs.Settling.{is_landing, settling}
use Rattle.history_seats.specs.Changes.{seat_renewed}
use Rattle.history_seats.specs.Rule.{SlotFits}
use Rattle.history_seats.specs.Views.{GateView, Sight, SlotView}
use Rattle.core_laws.specs.Stores.{Store}
use Rattle.object_slots.specs.SlotValues.{SlotValue, with_stage, without_stage}
use Rattle.object_slots.specs.GuardedSlots.{SlotInvariant}

-- the slot, whose seat sees the whole history
abbrev pub shown : GateView → SlotValue → SlotValue
shown gate slot = record slot { seat = seat_renewed gate slot.seat }

-- the slot once its commit in doubt landed, and once it did not
abbrev pub landed_slot : SlotValue → SlotValue
landed_slot slot = record slot { holds = with_stage slot.holds; doubt = None }

abbrev pub dropped_slot : SlotValue → SlotValue
dropped_slot slot = record slot { holds = without_stage slot.holds; doubt = None }

-- by the event that settled the doubt, if there is one, and else by whether the doubt stands below the place from which doubts may land
abbrev pub decided_slot : Option Event → (below : Bool) → SlotValue → SlotValue
decided_slot (Some event) below slot = if is_landing event then landed_slot slot else dropped_slot slot
decided_slot None below slot = if below then dropped_slot slot else slot

-- What the whole history makes of a slot's doubt: the first event that settles behind the doubtful one's place decides it.
abbrev pub learned : GateView → Option ℕ → SlotValue → SlotValue
learned gate None slot = slot
learned gate (Some place) slot = decided_slot (settling (drop (place + 1) gate.all)) (nat_lt place gate.decided) slot

-- So a slot may stand behind its lock again.
abbrev pub SlotsLearn : Type 0
SlotsLearn =
    (store : Store) (gate : GateView) (slot : SlotValue) (seat : Sight SlotView) → slot.seat ≡ Some seat → SlotFits gate seat.knows → SlotInvariant store slot
    → SlotInvariant store (learned gate slot.doubt (shown gate slot))
