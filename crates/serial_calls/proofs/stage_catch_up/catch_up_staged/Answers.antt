-- The slot keeps its stage under the seat that is shown the history, and stands at the entry.
use Rattle.std.proofs.Common.{refl, subst}
use Rattle.serial_calls.proofs.MetStages.{given_back, met_at, met_base, met_gives, met_stages}
use Rattle.serial_calls.proofs.stage_catch_up.catch_up_staged.Goals as goal
use Rattle.history_seats.specs.Rule.{SlotFits}
use Rattle.call_steps.specs.KnownMachine.{IsSessionAt}
use Rattle.call_steps.specs.GuardedGates.{GuardedGateValue}
use Rattle.call_steps.proofs.SlotViews.{agreed_fits}
use Rattle.core_laws.specs.Answered.{AreAnswered}
use Rattle.core_laws.specs.TamperScenarios.{TamperScenario}
use Rattle.core_laws.specs.Stores.{replay_at}

pub returns-clause-agreed : goal.returns-clause-agreed
returns-clause-agreed g c = agreed_fits c.args.gate.now.journal.knows c.args.slot.now c.lend_seat-seat.result c.lend_seat-seat.ensures.seat c.catch_up.ensures.agreed

pub returns-clause-base : goal.returns-clause-base
returns-clause-base g c =
    let knows = c.args.gate.now.journal.knows in
    let old = c.args.slot.now in
    let lent = c.lend_seat-seat.result in
    let fits : SlotFits knows lent.knows = (c.catch_up.ensures.agreed.slot lent.knows refl).0 in
    let is = given_back knows old c.lend_seat-seat.new.self c.give_seat.new.self lent c.in-Some.seat c.lend_seat-seat.ensures.seat c.lend_seat-seat.ensures.slot c.in-Some.ensures.slot c.give_seat.ensures in
    met_base g.L.StoreName.store knows old c.give_seat.new.self lent c.lend_seat-seat.ensures.seat fits c.requires.base c.requires.settled is

pub returns-clause-at : goal.returns-clause-at
returns-clause-at g c =
    let gate = c.args.gate.now in
    let knows = gate.journal.knows in
    let old = c.args.slot.now in
    let lent = c.lend_seat-seat.result in
    let fits : SlotFits knows lent.knows = (c.catch_up.ensures.agreed.slot lent.knows refl).0 in
    let is = given_back knows old c.lend_seat-seat.new.self c.give_seat.new.self lent c.in-Some.seat c.lend_seat-seat.ensures.seat c.lend_seat-seat.ensures.slot c.in-Some.ensures.slot c.give_seat.ensures in
    met_at g.L.StoreName.store knows old c.give_seat.new.self lent c.lend_seat-seat.ensures.seat fits c.requires.base c.requires.settled is gate.gate gate.closing c.reveal_invariant.ensures.guarded c.requires.idle
    c.requires.entry.0 c.args.entry.now c.requires.entry.1 c.requires.file c.catch_up.ensures.agreed.gate

pub returns-clause-still : goal.returns-clause-still
returns-clause-still g c =
    let knows = c.args.gate.now.journal.knows in
    let old = c.args.slot.now in
    let lent = c.lend_seat-seat.result in
    let fits : SlotFits knows lent.knows = (c.catch_up.ensures.agreed.slot lent.knows refl).0 in
    let is = given_back knows old c.lend_seat-seat.new.self c.give_seat.new.self lent c.in-Some.seat c.lend_seat-seat.ensures.seat c.lend_seat-seat.ensures.slot c.in-Some.ensures.slot c.give_seat.ensures in
    met_gives g.L.StoreName.store knows old c.give_seat.new.self lent c.lend_seat-seat.ensures.seat fits c.requires.base c.requires.settled is

pub returns-clause-stages : goal.returns-clause-stages
returns-clause-stages g c =
    let gate = c.args.gate.now in
    let knows = gate.journal.knows in
    let old = c.args.slot.now in
    let e = c.args.entry.now in
    let store = g.L.StoreName.store in
    let lent = c.lend_seat-seat.result in
    let fits : SlotFits knows lent.knows = (c.catch_up.ensures.agreed.slot lent.knows refl).0 in
    let is = given_back knows old c.lend_seat-seat.new.self c.give_seat.new.self lent c.in-Some.seat c.lend_seat-seat.ensures.seat c.lend_seat-seat.ensures.slot c.in-Some.ensures.slot c.give_seat.ensures in
    let at = met_at store knows old c.give_seat.new.self lent c.lend_seat-seat.ensures.seat fits c.requires.base c.requires.settled is gate.gate gate.closing c.reveal_invariant.ensures.guarded c.requires.idle
    c.requires.entry.0 e c.requires.entry.1 c.requires.file c.catch_up.ensures.agreed.gate in
    met_stages store knows old c.give_seat.new.self lent c.lend_seat-seat.ensures.seat fits c.requires.base c.requires.settled is e at.0 at.1

pub returns-clause-stands : goal.returns-clause-stands
returns-clause-stands g c =
    let store = g.L.StoreName.store in
    subst (λ (x : GuardedGateValue g.row.F.Denot g.row.R.Denot). (scenario : TamperScenario) → AreAnswered store scenario x.journal.knows.all → IsSessionAt (replay_at store scenario x.journal.knows.all).state c.catch_up.new.session)
    c.catch_up.ensures.same c.catch_up.ensures.stands
