-- What is shown and settled first goes on in what is told.
use Rattle.std.proofs.Common.{Option, Ok, ap, ◌∙◌, refl, subst, sym}
use Rattle.std.specs.Prelude.{IfSome, IsNone}
use Rattle.commit_gate.specs.CallerSessions.{CallerSession}
use Rattle.commit_gate.specs.declared.placed_reply.PlacedReply.{PlacedReply}
use Rattle.call_steps.specs.Foreseen.{IsEarly}
use Rattle.call_steps.specs.GateServed.{IsLeft, ServesAlone}
use Rattle.call_steps.proofs.Foreseen.{names-rise, none-lands, starved-first}
use Rattle.call_steps.proofs.Serving.{serves-after-catch_up}
use Rattle.call_steps.proofs.forecasting.forecast.Goals as goal

pub returns-in_err-answer-clause-forecasts : goal.returns-in_err-answer-clause-forecasts
returns-in_err-answer-clause-forecasts g c =
    let first = c.args.session.now in
    let last = c.answer_first.new.session in
    let early = serves-after-catch_up g.F.StoreFile.state g.R.RpmbPort.state g.E.Entropy.is_reliable g.E.Entropy.faults (g.E.Entropy.faults last.entropy) g.L.StoreName.store
    c.args.call.now c.args.gate.now c.catch_up.new.self c.answer_first.new.gate first c.catch_up.new.session last c.answer_first.result c.requires.caller
    c.catch_up.ensures.whole c.catch_up.ensures.begins c.catch_up.ensures.sees c.catch_up.ensures.same c.catch_up.ensures.session c.answer_first.ensures.serves in
    starved-first g.F.StoreFile.state g.R.RpmbPort.state g.L.StoreName.store c.args.call.now c.args.gate.now c.answer_first.new.gate first last (g.E.Entropy.is_reliable first.entropy)
    (g.E.Entropy.faults first.entropy) (g.E.Entropy.faults last.entropy) c.from_residual.result c.from_residual.ensures.0 _
    (subst (λ r. ServesAlone g.F.StoreFile.state g.R.RpmbPort.state (g.E.Entropy.is_reliable first.entropy) (g.E.Entropy.faults first.entropy) (g.E.Entropy.faults last.entropy)
    g.L.StoreName.store c.args.call.now c.args.gate.now c.answer_first.new.gate first last r) c.in_err-answer.was early)

pub returns-in-Some-clause-forecasts : goal.returns-in-Some-clause-forecasts
returns-in-Some-clause-forecasts g c =
    let first = c.args.session.now in
    let last = c.answer_first.new.session in
    let early = serves-after-catch_up g.F.StoreFile.state g.R.RpmbPort.state g.E.Entropy.is_reliable g.E.Entropy.faults (g.E.Entropy.faults last.entropy) g.L.StoreName.store
    c.args.call.now c.args.gate.now c.catch_up.new.self c.answer_first.new.gate first c.catch_up.new.session last c.answer_first.result c.requires.caller
    c.catch_up.ensures.whole c.catch_up.ensures.begins c.catch_up.ensures.sees c.catch_up.ensures.same c.catch_up.ensures.session c.answer_first.ensures.serves in (
      subst (λ r. ServesAlone g.F.StoreFile.state g.R.RpmbPort.state (g.E.Entropy.is_reliable first.entropy) (g.E.Entropy.faults first.entropy) (g.E.Entropy.faults last.entropy)
          g.L.StoreName.store c.args.call.now c.args.gate.now c.answer_first.new.gate first last r) (c.in_ok-answer.was ∙ ap (λ (o : Option PlacedReply). Ok o) c.in-Some.is) early,
      subst (λ (o : Option PlacedReply). IfSome o (λ answer. IsEarly answer.reply)) c.in-Some.is c.in_ok-answer.ensures.early,
    )

pub returns-clause-forecasts : goal.returns-clause-forecasts
returns-clause-forecasts g c =
    let store = g.L.StoreName.store in
    let first = c.args.session.now in
    let last = c.answer_first.new.session in
    let gate = c.answer_first.new.gate in
    let early = serves-after-catch_up g.F.StoreFile.state g.R.RpmbPort.state g.E.Entropy.is_reliable g.E.Entropy.faults (g.E.Entropy.faults last.entropy) store
    c.args.call.now c.args.gate.now c.catch_up.new.self gate first c.catch_up.new.session last c.answer_first.result c.requires.caller
    c.catch_up.ensures.whole c.catch_up.ensures.begins c.catch_up.ensures.sees c.catch_up.ensures.same c.catch_up.ensures.session c.answer_first.ensures.serves in
    let left : IsLeft g.F.StoreFile.state g.R.RpmbPort.state store c.args.gate.now gate first last =
    subst (λ r. ServesAlone g.F.StoreFile.state g.R.RpmbPort.state (g.E.Entropy.is_reliable first.entropy) (g.E.Entropy.faults first.entropy) (g.E.Entropy.faults last.entropy)
    store c.args.call.now c.args.gate.now gate first last r) (c.in_ok-answer.was ∙ ap (λ (o : Option PlacedReply). Ok o) c.in_default.is) early in
    record {
      left = left;
      calm = none-lands store gate c.reveal_invariant.ensures.guarded left.idle;
      rising = names-rise store gate c.reveal_invariant.ensures.guarded;
      place = c.forecast.ensures.place;
      told = c.forecast.ensures.told;
    }

pub returns-clause-undrawn : goal.returns-clause-undrawn
returns-clause-undrawn g c =
    c.in_ok-answer.ensures.undrawn (subst (λ (o : Option PlacedReply). IsNone o) (sym c.in_default.is) refl) ∙ ap (λ (s : CallerSession g.row.E.Denot). g.E.Entropy.faults s.entropy) c.catch_up.ensures.session
