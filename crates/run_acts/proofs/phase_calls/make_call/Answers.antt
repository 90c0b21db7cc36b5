-- The call is one of a phase: with its event, or without one where memory ran out.
use Rattle.std.proofs.Common.{Option, ℕ, get_or, subst}
use Rattle.object_calls.specs.Calling.{AnswersCall}
use Rattle.run_acts.proofs.OneCall.{made_none, made_one, seated_behind}
use Rattle.run_acts.proofs.Seats.{reliable_with}
use Rattle.run_acts.proofs.phase_calls.make_call.Goals as goal

pub returns-in-Some-clause-made : goal.returns-in-Some-clause-made
returns-in-Some-clause-made g c =
    let of_file = g.F.StoreFile.state in
    let of_port = g.R.RpmbPort.state in
    let draws = g.E.Entropy.faults in
    let store = g.L.StoreName.store in
    let a = c.args in
    let called = c.call-answer in
    made_one of_file of_port draws store a.service.now called.new.self a.sessions.now a.app c.index-sessions-app.result called.new.session a.call.now called.result.reply
    c.requires.sessions c.requires.app c.in-Some.field-0
    (subst (λ (place : Option ℕ). AnswersCall of_file of_port draws store a.service.now called.new.self (get_or a.sessions.now a.app c.index-sessions-app.result) called.new.session a.call.now place called.result.reply)
    c.in-Some.is called.ensures.answers)

pub returns-in-Some-clause-sessions : goal.returns-in-Some-clause-sessions
returns-in-Some-clause-sessions g c =
    let a = c.args in
    let called = c.call-answer in
    seated_behind g.F.StoreFile.state g.R.RpmbPort.state g.E.Entropy.faults g.L.StoreName.store a.service.now called.new.self a.sessions.now a.app c.index-sessions-app.result called.new.session
    a.call.now called.result.reply c.requires.sessions c.requires.app called.result.place called.ensures.answers

pub returns-clause-stopped : goal.returns-clause-stopped
returns-clause-stopped g c =
    let of_file = g.F.StoreFile.state in
    let of_port = g.R.RpmbPort.state in
    let draws = g.E.Entropy.faults in
    let store = g.L.StoreName.store in
    let a = c.args in
    let called = c.call-answer in
    made_none of_file of_port draws store a.service.now called.new.self a.sessions.now a.app c.index-sessions-app.result called.new.session a.call.now called.result.reply
    c.requires.sessions c.requires.app
    (subst (λ (place : Option ℕ). AnswersCall of_file of_port draws store a.service.now called.new.self (get_or a.sessions.now a.app c.index-sessions-app.result) called.new.session a.call.now place called.result.reply)
    c.in-None.is called.ensures.answers)

pub returns-clause-sessions : goal.returns-clause-sessions
returns-clause-sessions g c =
    let a = c.args in
    let called = c.call-answer in
    seated_behind g.F.StoreFile.state g.R.RpmbPort.state g.E.Entropy.faults g.L.StoreName.store a.service.now called.new.self a.sessions.now a.app c.index-sessions-app.result called.new.session
    a.call.now called.result.reply c.requires.sessions c.requires.app called.result.place called.ensures.answers

pub returns-in-Some-clause-reliable : goal.returns-in-Some-clause-reliable
returns-in-Some-clause-reliable g c =
    reliable_with c.args.sessions.now c.args.app c.requires.app c.call-answer.new.session g.E.Entropy.is_reliable g.E.Entropy.faults c.index-sessions-app.result c.call-answer.ensures.draws.reliable
    c.call-answer.ensures.draws.still

pub returns-clause-reliable : goal.returns-clause-reliable
returns-clause-reliable g c =
    reliable_with c.args.sessions.now c.args.app c.requires.app c.call-answer.new.session g.E.Entropy.is_reliable g.E.Entropy.faults c.index-sessions-app.result c.call-answer.ensures.draws.reliable
    c.call-answer.ensures.draws.still
