-- A slot that was given its seat back, and ended its stage.
use Rattle.std.proofs.Common.{Some, ap, subst, sym, ℕ, ◌∙◌, ◌≡◌}
use Rattle.history_seats.specs.Views.{Sight, SlotView}
use Rattle.object_slots.specs.GuardedSlots.{SlotInvariant}
use Rattle.call_steps.proofs.SlotEnds.{ended_guarded}
use Rattle.call_steps.specs.StageEndLaws.{IsEndedSlot}
use Rattle.call_steps.specs.StageEnds.{holds_behind, slot_doubt}
use Rattle.object_slots.specs.SlotValues.{SlotValue}
use Rattle.commit_gate.specs.declared.CommitEnd.{CommitEnd}
use Rattle.core_laws.specs.Stores.{Store}

pub settles : (store : Store) (old given new : SlotValue) (seat : Sight SlotView) (end : CommitEnd) (place : ℕ) → given ≡ record old { seat = Some seat }
    → new ≡ record given { holds = holds_behind given.holds end; doubt = slot_doubt place end } → IsEndedSlot store old seat end place → SlotInvariant store new
settles store old given new seat end place gives ends ended =
    subst (SlotInvariant store)
    (sym (ends ∙ ap (λ (s : SlotValue). record s { holds = holds_behind s.holds end; doubt = slot_doubt place end }) gives))
    (ended_guarded store old seat end place ended)
