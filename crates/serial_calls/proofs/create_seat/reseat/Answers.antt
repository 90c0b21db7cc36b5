-- The slot has a new seat, and nothing else.
use Rattle.std.proofs.Common.{Some, ap, subst, sym, ℕ, ◌+◌, ◌<◌, ◌∙◌, ◌≡◌}
use Rattle.serial_calls.proofs.FreshSeats.{seated_fresh, seated_own}
use Rattle.serial_calls.proofs.create_seat.reseat.Goals as goal
use Rattle.call_steps.proofs.SlotViews.{agreed_fits}
use Rattle.serial_calls.specs.Seating.{IsFreshSlot, file_reseated}
use Rattle.history_seats.specs.Views.{GateView, Sight, SlotView}
use Rattle.call_steps.specs.GuardedGates.{GuardedGateValue}
use Rattle.call_steps.specs.CreateLaws.{new_seat}
use Rattle.call_steps.specs.SlotValues.{SlotValue}
use Rattle.rpmb_card.specs.Protocol.{last_counter}

pub returns-clause-agreed : goal.returns-clause-agreed
returns-clause-agreed g c = agreed_fits c.args.gate.now.journal.knows c.args.slot.now c.lend_seat-seat.result c.lend_seat-seat.ensures.seat c.reseat-seat.ensures.agreed

pub returns-clause-fresh : goal.returns-clause-fresh
returns-clause-fresh g c =
    let store = g.L.StoreName.store in
    let gate = c.args.gate.now in
    let knows = gate.journal.knows in
    let slot = c.args.slot.now in
    let lent = c.lend_seat-seat.result in
    let generation = c.next_generation-generation.result in
    let was : slot.seat ≡ Some lent = c.lend_seat-seat.ensures.seat in
    let file : lent.knows.file ≡ slot.number = seated_own store slot c.requires.empty lent was in
    let next : gate.gate.counter < last_counter → generation ≡ gate.gate.counter + 1 =
    subst (λ (n : ℕ). n < last_counter → generation ≡ n + 1) c.counter.ensures c.next_generation-generation.ensures in
    let seen : c.reseat-seat.new.self.journal.knows ≡ file_reseated store slot.number knows = c.reseat-seat.ensures.knows ∙ ap (λ (n : ℕ). file_reseated store n knows) file in
    let counter : c.reseat-seat.new.self.gate.counter ≡ gate.gate.counter = ap (λ (x : GuardedGateValue g.row.F.Denot g.row.R.Denot). x.gate.counter) c.reseat-seat.ensures.gate in
    let seat : c.reseat-seat.result ≡ new_seat store knows slot.number generation = c.reseat-seat.ensures.seat ∙ ap (λ (n : ℕ). new_seat store knows n generation) file in
    let is : c.give_seat.new.self ≡ record slot { seat = Some (new_seat store knows slot.number generation) } =
    c.give_seat.ensures
    ∙ ap (λ (s : SlotValue). record s { seat = Some c.reseat-seat.result }) c.lend_seat-seat.ensures.slot
    ∙ ap (λ (x : Sight SlotView). record slot { seat = Some x }) seat in
    subst (λ (p : GateView × ℕ × SlotValue). IsFreshSlot store p.0 p.1 p.2) (λ i. (sym seen i, sym counter i, sym is i))
    (seated_fresh store gate.gate knows gate.closing c.reveal_invariant.ensures.guarded c.requires.idle slot c.requires.unnamed c.requires.empty lent was c.reseat-seat.ensures.agreed generation next)
