-- What becomes of a slot's doubt, by what became of the commit.
use Rattle.std.proofs.Common.{◌≡◌, ◌+◌, Bool, true, false, cond, drop, nat_lt, Option, Some, None, ℕ, refl, sym, ap, ◌∙◌}
use Rattle.store_model.specs.declared.event.Event.{Event}
use Rattle.history_seats.specs.Settling.{is_landing, settling}
use Rattle.history_seats.specs.Views.{GateView}
use Rattle.commit_gate.specs.declared.doubt_outcome.Settled.{Settled}
use Rattle.commit_gate.specs.Outcomes.{outcome_at, settled_as, settled_by_landing}
use Rattle.object_slots.specs.SlotValues.{SlotValue}
use Rattle.object_slots.specs.Learning.{decided_slot, dropped_slot, landed_slot, learned}
use Rattle.call_steps.specs.SlotCatchUp.{settled_slot}

by_landing : (landed below : Bool) (slot : SlotValue) → cond landed (landed_slot slot) (dropped_slot slot) ≡ settled_slot (settled_by_landing (Some landed) below) slot
by_landing true below slot = refl
by_landing false below slot = refl

by_event : (event : Option Event) (below : Bool) (slot : SlotValue) → decided_slot event below slot ≡ settled_slot (settled_as event below) slot
by_event None true slot = refl
by_event None false slot = refl
by_event (Some event) below slot = by_landing (is_landing event) below slot

pub learned-at : (gate : GateView) (place : ℕ) (slot : SlotValue) (settled : Settled) → settled ≡ outcome_at gate place → settled_slot settled slot ≡ learned gate (Some place) slot
learned-at gate place slot settled is =
    ap (λ (s : Settled). settled_slot s slot) is ∙ sym (by_event (settling (drop (place + 1) gate.all)) (nat_lt place gate.decided) slot)

pub learned-none : (gate : GateView) (doubt : Option ℕ) (slot : SlotValue) → doubt ≡ None → slot ≡ learned gate doubt slot
learned-none gate doubt slot none = ap (λ (d : Option ℕ). learned gate d slot) (sym none)
