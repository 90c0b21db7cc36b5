-- The slot that sees the whole history, and learnt what became of its doubt, may stand behind its lock, and gives what it gave.
use Rattle.std.proofs.Common.{◌≡◌, Option, Some, refl, sym, ap, ◌∙◌, subst}
use Rattle.history_seats.specs.Views.{Sight, SlotView}
use Rattle.history_seats.specs.Rule.{SlotFits}
use Rattle.core_laws.specs.TamperScenarios.{TamperScenario}
use Rattle.core_laws.specs.Stores.{replay_at}
use Rattle.core_laws.specs.Answered.{AreAnswered}
use Rattle.object_slots.specs.SlotValues.{SlotValue}
use Rattle.object_slots.proofs.SlotViews.{agreed_fits}
use Rattle.object_slots.specs.Learning.{learned, shown}
use Rattle.object_slots.specs.GuardedSlots.{SlotInvariant}
use Rattle.commit_gate.specs.KnownMachine.{IsSessionAt}
use Rattle.commit_gate.specs.GuardedGates.{GuardedGateValue}
use Rattle.call_steps.specs.SlotCatchUp.{StillGives, met}
use Rattle.call_steps.proofs.Meetings.{met-gives, met-guarded}
use Rattle.call_steps.proofs.slot_catch_up.catch_up_slot.Goals as goal

pub returns-clause-agreed : goal.returns-clause-agreed
returns-clause-agreed g c = agreed_fits c.args.gate.now.journal.knows c.args.slot.now c.lend_seat-seat.result c.lend_seat-seat.ensures.seat c.catch_up.ensures.agreed

pub returns-clause-guarded : goal.returns-clause-guarded
returns-clause-guarded g c =
    let store = g.L.StoreName.store in
    let knows = c.args.gate.now.journal.knows in
    let old = c.args.slot.now in
    let lent = c.lend_seat-seat.result in
    let fits : SlotFits knows lent.knows = (c.catch_up.ensures.agreed.slot lent.knows refl).0 in
    let given : c.give_seat.new.self ≡ shown knows old =
    c.give_seat.ensures
    ∙ ap (λ (s : SlotValue). record s { seat = Some c.in-Some.seat }) c.lend_seat-seat.ensures.slot
    ∙ ap (λ (o : Option (Sight SlotView)). record old { seat = o }) c.in-Some.ensures.slot
    ∙ sym (ap (λ (o : Option (Sight SlotView)). shown knows (record old { seat = o })) c.lend_seat-seat.ensures.seat) in
    let is : c.learn_outcome.new.slot ≡ met knows old =
    c.learn_outcome.ensures
    ∙ ap (λ (x : GuardedGateValue g.row.F.Denot g.row.R.Denot). learned x.journal.knows c.give_seat.new.self.doubt c.give_seat.new.self) c.catch_up.ensures.same
    ∙ ap (λ (s : SlotValue). learned knows s.doubt s) given in
    subst (SlotInvariant store) (sym is) (met-guarded store knows old lent c.lend_seat-seat.ensures.seat fits c.requires.guarded)

pub returns-clause-still : goal.returns-clause-still
returns-clause-still g c = λ v gives.
    let store = g.L.StoreName.store in
    let knows = c.args.gate.now.journal.knows in
    let old = c.args.slot.now in
    let lent = c.lend_seat-seat.result in
    let fits : SlotFits knows lent.knows = (c.catch_up.ensures.agreed.slot lent.knows refl).0 in
    let given : c.give_seat.new.self ≡ shown knows old =
    c.give_seat.ensures
    ∙ ap (λ (s : SlotValue). record s { seat = Some c.in-Some.seat }) c.lend_seat-seat.ensures.slot
    ∙ ap (λ (o : Option (Sight SlotView)). record old { seat = o }) c.in-Some.ensures.slot
    ∙ sym (ap (λ (o : Option (Sight SlotView)). shown knows (record old { seat = o })) c.lend_seat-seat.ensures.seat) in
    let is : c.learn_outcome.new.slot ≡ met knows old =
    c.learn_outcome.ensures
    ∙ ap (λ (x : GuardedGateValue g.row.F.Denot g.row.R.Denot). learned x.journal.knows c.give_seat.new.self.doubt c.give_seat.new.self) c.catch_up.ensures.same
    ∙ ap (λ (s : SlotValue). learned knows s.doubt s) given in
    subst (λ (s : SlotValue). StillGives old s v) (sym is) (met-gives store knows old lent c.lend_seat-seat.ensures.seat fits c.requires.guarded v gives)

pub returns-clause-stands : goal.returns-clause-stands
returns-clause-stands g c =
    let store = g.L.StoreName.store in
    subst (λ (x : GuardedGateValue g.row.F.Denot g.row.R.Denot). (scenario : TamperScenario) → AreAnswered store scenario x.journal.knows.all → IsSessionAt (replay_at store scenario x.journal.knows.all).state c.catch_up.new.session)
    c.catch_up.ensures.same c.catch_up.ensures.stands
