-- The slot was shown the history, and holds nothing.
use Rattle.std.proofs.Common.{None, Option, Some, ap, subst, sym, ◌∙◌, ◌≡◌}
use Rattle.serial_calls.proofs.ClearSlots.{shown_clear}
use Rattle.serial_calls.proofs.create_slot.clear.Goals as goal
use Rattle.serial_calls.specs.Clearing.{IsClearSlot}
use Rattle.history_seats.specs.Changes.{seat_renewed}
use Rattle.history_seats.specs.Views.{Sight, SlotView}
use Rattle.call_steps.proofs.SlotViews.{agreed_fits}
use Rattle.call_steps.specs.SlotValues.{SlotValue, free}

pub returns-clause-agreed : goal.returns-clause-agreed
returns-clause-agreed g c =
    agreed_fits c.args.gate.now.journal.knows c.args.slot.now c.lend_seat-seat.result (sym (ap (λ (s : SlotValue). s.seat) c.let_go.ensures) ∙ c.lend_seat-seat.ensures.seat) c.catch_up.ensures.agreed

pub returns-clause-clear : goal.returns-clause-clear
returns-clause-clear g c =
    let store = g.L.StoreName.store in
    let gate = c.args.gate.now in
    let knows = gate.journal.knows in
    let slot = c.args.slot.now in
    let lent = c.lend_seat-seat.result in
    let was : slot.seat ≡ Some lent = sym (ap (λ (s : SlotValue). s.seat) c.let_go.ensures) ∙ c.lend_seat-seat.ensures.seat in
    let is : c.give_seat.new.self ≡ record slot { seat = seat_renewed knows (Some lent); holds = free; doubt = None } =
    c.give_seat.ensures
    ∙ ap (λ (s : SlotValue). record s { seat = Some c.in-Some.seat }) (c.lend_seat-seat.ensures.slot ∙ ap (λ (s : SlotValue). record s { seat = None }) c.let_go.ensures)
    ∙ ap (λ (o : Option (Sight SlotView)). record slot { seat = o; holds = free; doubt = None }) c.in-Some.ensures.slot in
    subst (IsClearSlot store) (sym is)
    (shown_clear store gate.gate knows gate.closing c.reveal_invariant.ensures.guarded c.requires.idle slot c.requires.unnamed c.requires.guarded lent was _ c.catch_up.ensures.agreed)
