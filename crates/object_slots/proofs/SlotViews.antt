-- A slot whose seat is shown the whole history.
use Rattle.std.proofs.Common.{◌≡◌, ◌∙◌, Option, Some, refl, sym, ap}
use Rattle.history_seats.specs.Changes.{slot_renewed, together}
use Rattle.history_seats.specs.Rule.{Agrees}
use Rattle.history_seats.specs.Views.{GateView, PassView, Sight, SlotView}
use Rattle.object_slots.specs.SlotValues.{SlotValue}
use Rattle.object_slots.specs.Fits.{FitsGate, SeesWhole}

-- what it saw before agreed with the gate
pub agreed_fits : {pass : Option PassView} → (gate : GateView) (slot : SlotValue) (seat : Sight SlotView) → slot.seat ≡ Some seat → Agrees (together gate (Some seat.knows) pass) → FitsGate gate slot
agreed_fits gate slot seat is agrees = record { seat = seat; is = is; fits = (agrees.slot seat.knows refl).0; sound = agrees.gate }

-- and it sees all, once it has its seat back
pub shown_whole : (gate : GateView) (slot : SlotValue) (lent seat : Sight SlotView) → slot.seat ≡ Some seat → seat ≡ record lent { knows = slot_renewed gate lent.knows } → SeesWhole gate slot
shown_whole gate slot lent seat is shown = record {
  seat = seat;
  is = is;
  whole = ap (λ (s : Sight SlotView). slot_renewed gate s.knows) shown ∙ sym (ap (λ (s : Sight SlotView). s.knows) shown);
}
