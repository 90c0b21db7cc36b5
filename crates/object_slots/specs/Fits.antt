-- How the seat of a slot stands to the gate.
use Rattle.std.specs.Prelude.{◌≡◌, Some}
use Rattle.history_seats.specs.Changes.{slot_renewed}
use Rattle.history_seats.specs.Rule.{IsSound, SlotFits}
use Rattle.history_seats.specs.Views.{GateView, Sight, SlotView}
use Rattle.object_slots.specs.SlotValues.{SlotValue}

-- The seat of a slot agrees with the gate: what it saw begins the history, past which no record concerns its file.
pub record FitsGate (gate : GateView) (slot : SlotValue) : Type 0 where
  pub seat : Sight SlotView
  pub is : slot.seat ≡ Some seat
  pub fits : SlotFits gate seat.knows
  pub sound : IsSound gate

-- It sees the whole history: its view is the gate's.
pub record SeesWhole (gate : GateView) (slot : SlotValue) : Type 0 where
  pub seat : Sight SlotView
  pub is : slot.seat ≡ Some seat
  pub whole : slot_renewed gate seat.knows ≡ seat.knows
