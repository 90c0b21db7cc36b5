-- The call is one of a phase: with its event, or without one where it was refused or memory ran out.
use Rattle.std.proofs.Common.{◌∙◌, Ok, ap}
use Rattle.std.proofs.lemmas.Result.{err_from_is_err_and}
use Rattle.app_quota.specs.Quotas.{limit_of}
use Rattle.quota_store.specs.QuotaCallers.{answer_in}
use Rattle.quota_store.specs.declared.QuotaOutcome.{QuotaOutcome}
use Rattle.run_acts.proofs.QuotaMakings.{called-answered, called-refused, made-answered, made-nothing, others-same, seated-answered, seated-still}
use Rattle.run_acts.proofs.Seats.{reliable_with}
use Rattle.run_acts.proofs.phase_calls.make_call_within.Goals as goal

pub returns-in_default-clause-made : goal.returns-in_default-clause-made
returns-in_default-clause-made g c =
    let called = c.call_within in
    made-answered g.F.StoreFile.state g.R.RpmbPort.state g.E.Entropy.faults g.L.StoreName.store c.args.service.now called.new.self c.args.sessions.now c.args.app c.index-sessions-app.result
    called.new.session c.args.call.now c.requires.sessions c.requires.app called.result called.ensures.answers c.in_default.field-0
    (c.in_ok-place.was ∙ ap (λ (o : QuotaOutcome). Ok o) c.in_default.is)

pub returns-in_default-clause-called : goal.returns-in_default-clause-called
returns-in_default-clause-called g c =
    let called = c.call_within in
    called-answered g.F.StoreFile.state g.R.RpmbPort.state g.E.Entropy.faults g.L.StoreName.store c.args.service.now called.new.self c.args.sessions.now c.args.app c.index-sessions-app.result
    called.new.session c.args.call.now c.requires.sessions c.requires.app called.result called.ensures.answers c.in_default.field-0
    (c.in_ok-place.was ∙ ap (λ (o : QuotaOutcome). Ok o) c.in_default.is)
    c.args.quotas.now c.limit_of-limit.result (c.limit_of-limit.ensures ∙ ap (limit_of c.args.quotas.now) c.app.ensures) called.ensures.limits

pub returns-in_default-clause-others : goal.returns-in_default-clause-others
returns-in_default-clause-others g c =
    let called = c.call_within in
    others-same g.F.StoreFile.state g.R.RpmbPort.state g.E.Entropy.faults g.L.StoreName.store c.args.service.now called.new.self c.args.sessions.now c.args.app c.index-sessions-app.result
    called.new.session c.args.call.now c.requires.sessions c.requires.app called.result called.ensures.answers

pub returns-in_default-clause-sessions : goal.returns-in_default-clause-sessions
returns-in_default-clause-sessions g c =
    let called = c.call_within in
    seated-answered g.F.StoreFile.state g.R.RpmbPort.state g.E.Entropy.faults g.L.StoreName.store c.args.service.now called.new.self c.args.sessions.now c.args.app c.index-sessions-app.result
    called.new.session c.args.call.now c.requires.sessions c.requires.app called.result called.ensures.answers c.in_default.field-0
    (c.in_ok-place.was ∙ ap (λ (o : QuotaOutcome). Ok o) c.in_default.is)

pub returns-in_default-clause-reliable : goal.returns-in_default-clause-reliable
returns-in_default-clause-reliable g c =
    let called = c.call_within in
    reliable_with c.args.sessions.now c.args.app c.requires.app called.new.session g.E.Entropy.is_reliable g.E.Entropy.faults c.index-sessions-app.result called.ensures.draws.reliable called.ensures.draws.still

pub returns-clause-made : goal.returns-clause-made
returns-clause-made g c =
    let called = c.call_within in
    made-nothing g.F.StoreFile.state g.R.RpmbPort.state g.E.Entropy.faults g.L.StoreName.store c.args.service.now called.new.self c.args.sessions.now c.args.app c.index-sessions-app.result
    called.new.session c.args.call.now c.requires.sessions c.requires.app called.result called.ensures.answers
    (ap answer_in (c.in_ok-place.was ∙ ap (λ (o : QuotaOutcome). Ok o) c.in-Refused.is))

pub returns-clause-called : goal.returns-clause-called
returns-clause-called g c =
    let called = c.call_within in
    called-refused g.F.StoreFile.state g.R.RpmbPort.state g.E.Entropy.faults g.L.StoreName.store c.args.service.now called.new.self c.args.sessions.now c.args.app c.index-sessions-app.result
    called.new.session c.args.call.now c.requires.sessions c.requires.app called.result called.ensures.answers c.in-Refused.place
    (c.in_ok-place.was ∙ ap (λ (o : QuotaOutcome). Ok o) c.in-Refused.is)
    c.args.quotas.now c.limit_of-limit.result (c.limit_of-limit.ensures ∙ ap (limit_of c.args.quotas.now) c.app.ensures) called.ensures.limits called.ensures.refused

pub returns-clause-others : goal.returns-clause-others
returns-clause-others g c =
    let called = c.call_within in
    others-same g.F.StoreFile.state g.R.RpmbPort.state g.E.Entropy.faults g.L.StoreName.store c.args.service.now called.new.self c.args.sessions.now c.args.app c.index-sessions-app.result
    called.new.session c.args.call.now c.requires.sessions c.requires.app called.result called.ensures.answers

pub returns-clause-sessions : goal.returns-clause-sessions
returns-clause-sessions g c =
    let called = c.call_within in
    seated-still g.F.StoreFile.state g.R.RpmbPort.state g.E.Entropy.faults g.L.StoreName.store c.args.service.now called.new.self c.args.sessions.now c.args.app c.index-sessions-app.result
    called.new.session c.args.call.now c.requires.sessions c.requires.app called.result called.ensures.answers
    (ap answer_in (c.in_ok-place.was ∙ ap (λ (o : QuotaOutcome). Ok o) c.in-Refused.is))

pub returns-clause-reliable : goal.returns-clause-reliable
returns-clause-reliable g c =
    let called = c.call_within in
    reliable_with c.args.sessions.now c.args.app c.requires.app called.new.session g.E.Entropy.is_reliable g.E.Entropy.faults c.index-sessions-app.result called.ensures.draws.reliable called.ensures.draws.still

pub returns-in_err-place-clause-stopped : goal.returns-in_err-place-clause-stopped
returns-in_err-place-clause-stopped g c =
    let called = c.call_within in
    let p = err_from_is_err_and c.from_residual.result c.from_residual.ensures.1 in
    rw (p.1)
    (made-nothing g.F.StoreFile.state g.R.RpmbPort.state g.E.Entropy.faults g.L.StoreName.store c.args.service.now called.new.self c.args.sessions.now c.args.app c.index-sessions-app.result
    called.new.session c.args.call.now c.requires.sessions c.requires.app called.result called.ensures.answers
    (ap answer_in c.in_err-place.was))

pub returns-in_err-place-clause-others : goal.returns-in_err-place-clause-others
returns-in_err-place-clause-others g c =
    let called = c.call_within in
    others-same g.F.StoreFile.state g.R.RpmbPort.state g.E.Entropy.faults g.L.StoreName.store c.args.service.now called.new.self c.args.sessions.now c.args.app c.index-sessions-app.result
    called.new.session c.args.call.now c.requires.sessions c.requires.app called.result called.ensures.answers

pub returns-in_err-place-clause-sessions : goal.returns-in_err-place-clause-sessions
returns-in_err-place-clause-sessions g c =
    let called = c.call_within in
    seated-still g.F.StoreFile.state g.R.RpmbPort.state g.E.Entropy.faults g.L.StoreName.store c.args.service.now called.new.self c.args.sessions.now c.args.app c.index-sessions-app.result
    called.new.session c.args.call.now c.requires.sessions c.requires.app called.result called.ensures.answers
    (ap answer_in c.in_err-place.was)

pub returns-in_err-place-clause-reliable : goal.returns-in_err-place-clause-reliable
returns-in_err-place-clause-reliable g c =
    let called = c.call_within in
    reliable_with c.args.sessions.now c.args.app c.requires.app called.new.session g.E.Entropy.is_reliable g.E.Entropy.faults c.index-sessions-app.result called.ensures.draws.reliable called.ensures.draws.still
