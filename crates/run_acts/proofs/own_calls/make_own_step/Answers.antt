use Rattle.std.proofs.Common.{◌≡◌, ◌∙◌, List, [], ◌∷◌, sym, ap, subst}
use Rattle.std.proofs.lemmas.Result.{err_from_is_err_and}
use Rattle.tee_types.specs.declared.call.Call.{Call}
use Rattle.script_text.specs.declared.script.Step.{Step}
use Rattle.run_acts.specs.ServedSteps.{calls_in}
use Rattle.run_acts.specs.OwnCalls.{HasMade, HasStopped}
use Rattle.run_acts.proofs.Calls.{calls_in-one}
use Rattle.run_acts.proofs.Makings.{made_one, stopped_one}
use Rattle.run_acts.proofs.own_calls.make_own_step.Goals as goal

pub returns-clause-made : goal.returns-clause-made
returns-clause-made g c =
    let store = g.L.StoreName.store in
    let was = c.args.session.now in
    let call = c.in-Call.call in
    let own : calls_in was.number (c.args.step.now ∷ []) ≡ call ∷ [] =
    ap (λ (step : Step). calls_in was.number (step ∷ [])) c.in-Call.is ∙ calls_in-one was.number c.in-Call.app call (c.if-app-number.false ∙ c.number.ensures) in
    subst (HasMade g.E.Entropy.is_reliable g.E.Entropy.faults store was c.call.new.session) (sym own)
    (made_one g.E.Entropy.is_reliable g.E.Entropy.faults store was c.call.new.session call c.in_ok-_answer._answer c.in_ok-_answer.ensures.ends c.call.ensures.draws.counted c.in_ok-_answer.ensures.drawn
    (λ reliable. (c.call.ensures.draws.reliable reliable, c.call.ensures.draws.still reliable)))

pub returns-in_err-_answer-clause-stopped : goal.returns-in_err-_answer-clause-stopped
returns-in_err-_answer-clause-stopped g c =
    let store = g.L.StoreName.store in
    let was = c.args.session.now in
    let call = c.in-Call.call in
    let own : calls_in was.number (c.args.step.now ∷ []) ≡ call ∷ [] =
    ap (λ (step : Step). calls_in was.number (step ∷ [])) c.in-Call.is ∙ calls_in-one was.number c.in-Call.app call (c.if-app-number.false ∙ c.number.ensures) in
    let p = err_from_is_err_and c.from_residual.result c.from_residual.ensures.1 in
    rw (p.1)
    (subst (λ (calls : List Call). HasStopped store was c.call.new.session calls) (sym own)
    (stopped_one g.E.Entropy.is_reliable g.E.Entropy.faults store was c.call.new.session call c.in_err-_answer.ensures.ends))
