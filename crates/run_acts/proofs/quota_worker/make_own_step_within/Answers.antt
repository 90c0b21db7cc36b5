-- The step is no call of the session; or its call was made, or refused and noted.
use Rattle.std.proofs.Common.{◌≡◌, ◌∙◌, ◌++◌, ℕ, [], ◌∷◌, length, Ok, ap, subst, sym}
use Rattle.std.proofs.lemmas.Result.{err_from_is_err_and}
use Rattle.script_text.specs.declared.script.Step.{Step}
use Rattle.quota_store.specs.declared.QuotaOutcome.{QuotaOutcome}
use Rattle.run_acts.specs.QuotaWork.{HasMadeWithin}
use Rattle.run_acts.specs.ServedSteps.{calls_in}
use Rattle.run_acts.specs.declared.refused_call.RefusedCall.{RefusedCall}
use Rattle.run_acts.proofs.QuotaSteps.{ends-caller, ends-refused, ends-waiting, limited-still, one-answered, one-refused, other-call, stopped-here, within-other}
use Rattle.run_acts.proofs.quota_worker.make_own_step_within.Goals as goal

pub returns-in_default-clause-made : goal.returns-in_default-clause-made
returns-in_default-clause-made g c = λ limits was steps numbered limited m.
    let w = c.args.worker.now in
    within-other g.E.Entropy.is_reliable g.E.Entropy.faults g.L.StoreName.store limits steps c.args.step.now was w.session.caller w.refused.items m
    (ap (λ (step : Step). calls_in was.number (step ∷ [])) c.in_default.is)

pub returns-then-app-number-clause-made : goal.returns-then-app-number-clause-made
returns-then-app-number-clause-made g c = λ limits was steps numbered limited m.
    let w = c.args.worker.now in
    within-other g.E.Entropy.is_reliable g.E.Entropy.faults g.L.StoreName.store limits steps c.args.step.now was w.session.caller w.refused.items m
    (ap (λ (step : Step). calls_in was.number (step ∷ [])) c.in-Call.is
    ∙ other-call was.number c.in-Call.app c.in-Call.call (λ own. c.if-app-number.true (own ∙ sym m.keeps.number ∙ sym c.number.ensures)))

pub returns-in_default-2-clause-made : goal.returns-in_default-2-clause-made
returns-in_default-2-clause-made g c = λ limits was steps numbered limited m.
    let w = c.args.worker.now in
    let called = c.call in
    one-answered g.E.Entropy.is_reliable g.E.Entropy.faults g.L.StoreName.store w.session.limit w.session.caller called.new.session.caller c.in-Call.call called.result called.ensures.ends
    limits steps c.args.step.now was w.refused.items m
    c.in-Call.app c.in-Call.is (c.if-app-number.false ∙ c.number.ensures) limited called.ensures.limits called.ensures.draws.counted (λ reliable. (called.ensures.draws.reliable reliable, called.ensures.draws.still reliable)) c.in_default-2.field-0
    (c.in_ok-place.was ∙ ap (λ (o : QuotaOutcome). Ok o) c.in_default-2.is) called.ensures.drawn

pub returns-clause-made : goal.returns-clause-made
returns-clause-made g c = λ limits was steps numbered limited m.
    let w = c.args.worker.now in
    let called = c.call in
    let grew : w.refused.items ++ record { step = length steps; place = c.in-Refused.place } ∷ [] ≡ c.push.new.self.items =
    ap (λ (n : ℕ). let noted : RefusedCall = record { step = n; place = c.in-Refused.place } in w.refused.items ++ noted ∷ []) numbered ∙ sym c.in_ok-push.ensures.items in
    subst (HasMadeWithin g.E.Entropy.is_reliable g.E.Entropy.faults g.L.StoreName.store limits (steps ++ c.args.step.now ∷ []) was called.new.session.caller) grew
    (one-refused g.E.Entropy.is_reliable g.E.Entropy.faults g.L.StoreName.store w.session.limit w.session.caller called.new.session.caller c.in-Call.call called.result called.ensures.ends
    limits steps c.args.step.now was w.refused.items m
    c.in-Call.app c.in-Call.is (c.if-app-number.false ∙ c.number.ensures) limited called.ensures.limits called.ensures.draws.counted (λ reliable. (called.ensures.draws.reliable reliable, called.ensures.draws.still reliable)) c.in-Refused.place
    (c.in_ok-place.was ∙ ap (λ (o : QuotaOutcome). Ok o) c.in-Refused.is))

pub returns-in_default-2-clause-caller : goal.returns-in_default-2-clause-caller
returns-in_default-2-clause-caller g c =
    let w = c.args.worker.now in
    (ends-caller g.L.StoreName.store w.session.limit w.session.caller c.call.new.session.caller c.in-Call.call c.call.result c.call.ensures.ends).0

pub returns-in_default-2-clause-limited : goal.returns-in_default-2-clause-limited
returns-in_default-2-clause-limited g c = λ limits limited.
    let w = c.args.worker.now in
    limited-still g.L.StoreName.store limits w.session c.call.new.session c.requires
    (ends-caller g.L.StoreName.store w.session.limit w.session.caller c.call.new.session.caller c.in-Call.call c.call.result c.call.ensures.ends) c.call.ensures.limit limited

pub returns-clause-caller : goal.returns-clause-caller
returns-clause-caller g c =
    let w = c.args.worker.now in
    (ends-caller g.L.StoreName.store w.session.limit w.session.caller c.call.new.session.caller c.in-Call.call c.call.result c.call.ensures.ends).0

pub returns-clause-limited : goal.returns-clause-limited
returns-clause-limited g c = λ limits limited.
    let w = c.args.worker.now in
    limited-still g.L.StoreName.store limits w.session c.call.new.session c.requires
    (ends-caller g.L.StoreName.store w.session.limit w.session.caller c.call.new.session.caller c.in-Call.call c.call.result c.call.ensures.ends) c.call.ensures.limit limited

pub returns-in_err-push-clause-caller : goal.returns-in_err-push-clause-caller
returns-in_err-push-clause-caller g c =
    let w = c.args.worker.now in
    (ends-caller g.L.StoreName.store w.session.limit w.session.caller c.call.new.session.caller c.in-Call.call c.call.result c.call.ensures.ends).0

pub returns-in_err-push-clause-limited : goal.returns-in_err-push-clause-limited
returns-in_err-push-clause-limited g c = λ limits limited.
    let w = c.args.worker.now in
    limited-still g.L.StoreName.store limits w.session c.call.new.session c.requires
    (ends-caller g.L.StoreName.store w.session.limit w.session.caller c.call.new.session.caller c.in-Call.call c.call.result c.call.ensures.ends) c.call.ensures.limit limited

pub returns-in_err-place-clause-caller : goal.returns-in_err-place-clause-caller
returns-in_err-place-clause-caller g c =
    let w = c.args.worker.now in
    (ends-caller g.L.StoreName.store w.session.limit w.session.caller c.call.new.session.caller c.in-Call.call c.call.result c.call.ensures.ends).0

pub returns-in_err-place-clause-limited : goal.returns-in_err-place-clause-limited
returns-in_err-place-clause-limited g c = λ limits limited.
    let w = c.args.worker.now in
    limited-still g.L.StoreName.store limits w.session c.call.new.session c.requires
    (ends-caller g.L.StoreName.store w.session.limit w.session.caller c.call.new.session.caller c.in-Call.call c.call.result c.call.ensures.ends) c.call.ensures.limit limited

pub returns-in_err-place-clause-stopped : goal.returns-in_err-place-clause-stopped
returns-in_err-place-clause-stopped g c =
    let w = c.args.worker.now in
    let called = c.call in
    let waits = ends-waiting g.L.StoreName.store w.session.limit w.session.caller called.new.session.caller c.in-Call.call called.result called.ensures.ends _ c.in_err-place.was in
    let p = err_from_is_err_and c.from_residual.result c.from_residual.ensures.1 in
    rw (p.1)
    (stopped-here g.E.Entropy.is_reliable g.E.Entropy.faults g.L.StoreName.store w.session.limit w.session.caller called.new.session.caller c.in-Call.call called.result called.ensures.ends
    c.args.step.now c.in-Call.app c.in-Call.is (c.if-app-number.false ∙ c.number.ensures) waits)

pub returns-in_err-push-clause-stopped : goal.returns-in_err-push-clause-stopped
returns-in_err-push-clause-stopped g c =
    let w = c.args.worker.now in
    let called = c.call in
    let refused = ends-refused g.L.StoreName.store w.session.limit w.session.caller called.new.session.caller c.in-Call.call called.result called.ensures.ends c.in-Refused.place
    (c.in_ok-place.was ∙ ap (λ (o : QuotaOutcome). Ok o) c.in-Refused.is) in
    let p = err_from_is_err_and c.from_residual-in_err-push.result c.from_residual-in_err-push.ensures.1 in
    rw (p.1)
    (stopped-here g.E.Entropy.is_reliable g.E.Entropy.faults g.L.StoreName.store w.session.limit w.session.caller called.new.session.caller c.in-Call.call called.result called.ensures.ends
    c.args.step.now c.in-Call.app c.in-Call.is (c.if-app-number.false ∙ c.number.ensures) refused.waits)
