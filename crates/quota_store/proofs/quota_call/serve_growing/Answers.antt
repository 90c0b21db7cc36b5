-- The call is answered before, refused, or served as far as the forecast went.
use Rattle.std.proofs.Common.{◌∙◌, Ok, Result, Some, inl, inr, refl, sym, subst}
use Rattle.app_totals.specs.declared.numbers.Forecast.{Forecast}
use Rattle.shared_store.proofs.CarriedAttempts.{carries-grown}
use Rattle.shared_store.proofs.GoingOn.{waits-then}
use Rattle.shared_store.specs.CallerSessions.{CallerSession}
use Rattle.shared_store.specs.ForeseenCalls.{EndsForecast, IsAnsweredEarly, IsForeseen}
use Rattle.shared_store.specs.declared.PlacedReply.{PlacedReply}
use Rattle.quota_store.proofs.LockedCalls.{came-starved}
use Rattle.quota_store.proofs.quota_call.serve_growing.Goals as goal

pub returns-in_err-forecast-clause-came : goal.returns-in_err-forecast-clause-came
returns-in_err-forecast-clause-came g c =
    let was : CallerSession g.row.E.Denot = record c.args.session.now { pass = Some c.args.seat.one } in
    came-starved g.L.StoreName.store c.args.limit was c.look_first.new.session c.args.call.now c.args.kept.now.items c.look_first.new.kept.items c.from_residual.result c.from_residual.ensures.0
    c.in_err-forecast.ensures.ends

pub returns-in-Err-clause-came : goal.returns-in-Err-clause-came
returns-in-Err-clause-came g c =
    let store = g.L.StoreName.store in
    let was : CallerSession g.row.E.Denot = record c.args.session.now { pass = Some c.args.seat.one } in
    let gate = c.look_first.new.gate.journal.knows in
    let early : IsAnsweredEarly store gate was c.look_first.new.session c.args.call.now c.in-Err.answer =
    subst (λ (x : Result Forecast PlacedReply). EndsForecast store gate was c.look_first.new.session c.args.call.now {X = Unit {0}} (Ok x)) c.in-Err.is
    c.in_ok-forecast.ensures.ends in
    inl (gate, early)

pub returns-then-tells_beyond-clause-came : goal.returns-then-tells_beyond-clause-came
returns-then-tells_beyond-clause-came g c =
    let store = g.L.StoreName.store in
    let gate = c.look_first.new.gate.journal.knows in
    let was : CallerSession g.row.E.Denot = record c.args.session.now { pass = Some c.args.seat.one } in
    record {
      gate = gate;
      forecast = c.in-Ok.forecast;
      foreseen = subst (λ (x : Result Forecast PlacedReply). EndsForecast store gate was c.look_first.new.session c.args.call.now {X = Unit {0}} (Ok x)) c.in-Ok.is c.in_ok-forecast.ensures.ends;
      beyond = sym c.tells_beyond.ensures ∙ c.if-tells_beyond.true;
      at = refl;
      shown = c.look_first.ensures.shown;
    }

pub returns-in_err-answer-clause-came : goal.returns-in_err-answer-clause-came
returns-in_err-answer-clause-came g c =
    let store = g.L.StoreName.store in
    let gate = c.look_first.new.gate.journal.knows in
    let was : CallerSession g.row.E.Denot = record c.args.session.now { pass = Some c.args.seat.one } in
    let mid = c.look_first.new.session in
    let foreseen : IsForeseen store gate was mid c.args.call.now c.in-Ok.forecast =
    subst (λ (x : Result Forecast PlacedReply). EndsForecast store gate was mid c.args.call.now {X = Unit {0}} (Ok x)) c.in-Ok.is c.in_ok-forecast.ensures.ends in
    came-starved store c.args.limit was c.call_from.new.session c.args.call.now c.args.kept.now.items c.look_first.new.kept.items c.from_residual-in_err-answer.result c.from_residual-in_err-answer.ensures.0
    (waits-then store was mid c.call_from.new.session foreseen.waits c.in_err-answer.ensures.ends)

pub returns-clause-came : goal.returns-clause-came
returns-clause-came g c =
    let store = g.L.StoreName.store in
    let gate = c.look_first.new.gate.journal.knows in
    let was : CallerSession g.row.E.Denot = record c.args.session.now { pass = Some c.args.seat.one } in
    let mid = c.look_first.new.session in
    inr (record {
      gate = gate;
      mid = mid;
      forecast = c.in-Ok.forecast;
      foreseen = subst (λ (x : Result Forecast PlacedReply). EndsForecast store gate was mid c.args.call.now {X = Unit {0}} (Ok x)) c.in-Ok.is c.in_ok-forecast.ensures.ends;
      within = sym c.tells_beyond.ensures ∙ c.if-tells_beyond.false;
      answered = c.in_ok-answer.ensures.ends;
      shown = c.look_first.ensures.shown;
    })

pub returns-clause-drawn : goal.returns-clause-drawn
returns-clause-drawn g c =
    let first = g.E.Entropy.faults c.args.session.now.entropy in
    let mid = g.E.Entropy.faults c.look_first.new.session.entropy in
    carries-grown first mid (g.E.Entropy.faults c.call_from.new.session.entropy) c.in_ok-answer.answer.reply c.look_first.ensures.draws.counted c.in_ok-answer.ensures.drawn
