-- What is shown and settled first goes on in the answer.
use Rattle.std.proofs.Common.{Option, Ok, ap, ◌∙◌, refl, subst, sym}
use Rattle.std.specs.Prelude.{IsNone}
use Rattle.commit_gate.specs.CallerSessions.{CallerSession}
use Rattle.commit_gate.specs.declared.placed_reply.PlacedReply.{PlacedReply}
use Rattle.call_steps.specs.GateServed.{ServesAlone, ServesAtOnce}
use Rattle.call_steps.proofs.Serving.{at_once_caught_up, at_once_err, serves-after-catch_up, serves-behind, unserved-as}
use Rattle.call_steps.proofs.gate_answers.answer_alone.Goals as goal

pub returns-in_err-answer-clause-serves : goal.returns-in_err-answer-clause-serves
returns-in_err-answer-clause-serves g c =
    let first = c.args.session.now in
    let last = c.answer_early.new.session in
    let early = serves-after-catch_up g.F.StoreFile.state g.R.RpmbPort.state g.E.Entropy.is_reliable g.E.Entropy.faults (g.E.Entropy.faults c.answer_early.new.session.entropy) g.L.StoreName.store
    c.args.call.now c.args.gate.now c.catch_up.new.self c.answer_early.new.gate c.args.session.now c.catch_up.new.session c.answer_early.new.session c.answer_early.result c.requires.caller
    c.catch_up.ensures.whole c.catch_up.ensures.begins c.catch_up.ensures.sees c.catch_up.ensures.same c.catch_up.ensures.session c.answer_early.ensures.serves in
    unserved-as g.F.StoreFile.state g.R.RpmbPort.state (g.E.Entropy.is_reliable first.entropy) (g.E.Entropy.faults first.entropy) (g.E.Entropy.faults last.entropy) g.L.StoreName.store
    c.args.call.now c.args.gate.now c.answer_early.new.gate first last c.from_residual.result c.from_residual.ensures.0
    (subst (λ r. ServesAlone g.F.StoreFile.state g.R.RpmbPort.state (g.E.Entropy.is_reliable first.entropy) (g.E.Entropy.faults first.entropy) (g.E.Entropy.faults last.entropy)
    g.L.StoreName.store c.args.call.now c.args.gate.now c.answer_early.new.gate first last r) c.in_err-answer.was early)

pub returns-in-Some-clause-serves : goal.returns-in-Some-clause-serves
returns-in-Some-clause-serves g c =
    let first = c.args.session.now in
    let last = c.answer_early.new.session in
    let early = serves-after-catch_up g.F.StoreFile.state g.R.RpmbPort.state g.E.Entropy.is_reliable g.E.Entropy.faults (g.E.Entropy.faults c.answer_early.new.session.entropy) g.L.StoreName.store
    c.args.call.now c.args.gate.now c.catch_up.new.self c.answer_early.new.gate c.args.session.now c.catch_up.new.session c.answer_early.new.session c.answer_early.result c.requires.caller
    c.catch_up.ensures.whole c.catch_up.ensures.begins c.catch_up.ensures.sees c.catch_up.ensures.same c.catch_up.ensures.session c.answer_early.ensures.serves in
    subst (λ r. ServesAlone g.F.StoreFile.state g.R.RpmbPort.state (g.E.Entropy.is_reliable first.entropy) (g.E.Entropy.faults first.entropy) (g.E.Entropy.faults last.entropy)
    g.L.StoreName.store c.args.call.now c.args.gate.now c.answer_early.new.gate first last r) (c.in_ok-answer.was ∙ ap (λ (o : Option PlacedReply). Ok o) c.in-Some.is) early

pub returns-clause-serves : goal.returns-clause-serves
returns-clause-serves g c =
    let first = c.args.session.now in
    let last = c.answer_early.new.session in
    let early = serves-after-catch_up g.F.StoreFile.state g.R.RpmbPort.state g.E.Entropy.is_reliable g.E.Entropy.faults (g.E.Entropy.faults c.answer_early.new.session.entropy) g.L.StoreName.store
    c.args.call.now c.args.gate.now c.catch_up.new.self c.answer_early.new.gate c.args.session.now c.catch_up.new.session c.answer_early.new.session c.answer_early.result c.requires.caller
    c.catch_up.ensures.whole c.catch_up.ensures.begins c.catch_up.ensures.sees c.catch_up.ensures.same c.catch_up.ensures.session c.answer_early.ensures.serves in
    let left =
    subst (λ r. ServesAlone g.F.StoreFile.state g.R.RpmbPort.state (g.E.Entropy.is_reliable first.entropy) (g.E.Entropy.faults first.entropy) (g.E.Entropy.faults last.entropy)
    g.L.StoreName.store c.args.call.now c.args.gate.now c.answer_early.new.gate first last r) (c.in_ok-answer.was ∙ ap (λ (o : Option PlacedReply). Ok o) c.in_default.is) early in
    serves-behind g.F.StoreFile.state g.R.RpmbPort.state (g.E.Entropy.is_reliable first.entropy) (g.E.Entropy.faults first.entropy)
    (g.E.Entropy.faults c.answer_by_rules.new.session.entropy) g.L.StoreName.store c.args.call.now c.args.gate.now c.answer_early.new.gate c.answer_by_rules.new.gate first last
    c.answer_by_rules.new.session c.answer_by_rules.result left
    (ap g.E.Entropy.faults c.answer_by_rules.ensures.entropy ∙ c.in_ok-answer.ensures.undrawn (subst (λ (o : Option PlacedReply). IsNone o) (sym c.in_default.is) refl) ∙ ap (λ (s : CallerSession g.row.E.Denot). g.E.Entropy.faults s.entropy) c.catch_up.ensures.session)
    c.answer_by_rules.ensures.serves

pub returns-in_err-answer-clause-at_once : goal.returns-in_err-answer-clause-at_once
returns-in_err-answer-clause-at_once g c = λ misused.
    at_once_err g.L.StoreName.store c.args.call.now c.args.gate.now c.answer_early.new.gate c.args.session.now c.answer_early.new.session c.from_residual.result c.from_residual.ensures.0
    (subst (λ r. ServesAtOnce g.L.StoreName.store c.args.call.now c.args.gate.now c.answer_early.new.gate c.args.session.now c.answer_early.new.session r) c.in_err-answer.was
    (at_once_caught_up g.L.StoreName.store c.args.call.now c.args.gate.now c.catch_up.new.self c.answer_early.new.gate c.args.session.now c.catch_up.new.session c.answer_early.new.session
    c.answer_early.result c.requires.caller c.catch_up.ensures.whole c.catch_up.ensures.begins c.catch_up.ensures.sees c.catch_up.ensures.same c.catch_up.ensures.session c.answer_early.ensures.at_once misused))

pub returns-in-Some-clause-at_once : goal.returns-in-Some-clause-at_once
returns-in-Some-clause-at_once g c = λ misused.
    subst (λ r. ServesAtOnce g.L.StoreName.store c.args.call.now c.args.gate.now c.answer_early.new.gate c.args.session.now c.answer_early.new.session r)
    (c.in_ok-answer.was ∙ ap (λ (o : Option PlacedReply). Ok o) c.in-Some.is)
    (at_once_caught_up g.L.StoreName.store c.args.call.now c.args.gate.now c.catch_up.new.self c.answer_early.new.gate c.args.session.now c.catch_up.new.session c.answer_early.new.session
    c.answer_early.result c.requires.caller c.catch_up.ensures.whole c.catch_up.ensures.begins c.catch_up.ensures.sees c.catch_up.ensures.same c.catch_up.ensures.session c.answer_early.ensures.at_once misused)

pub returns-clause-at_once : goal.returns-clause-at_once
returns-clause-at_once g c = λ misused.
    absurd
    (subst (λ r. ServesAtOnce g.L.StoreName.store c.args.call.now c.args.gate.now c.answer_early.new.gate c.args.session.now c.answer_early.new.session r)
    (c.in_ok-answer.was ∙ ap (λ (o : Option PlacedReply). Ok o) c.in_default.is)
    (at_once_caught_up g.L.StoreName.store c.args.call.now c.args.gate.now c.catch_up.new.self c.answer_early.new.gate c.args.session.now c.catch_up.new.session c.answer_early.new.session
    c.answer_early.result c.requires.caller c.catch_up.ensures.whole c.catch_up.ensures.begins c.catch_up.ensures.sees c.catch_up.ensures.same c.catch_up.ensures.session c.answer_early.ensures.at_once misused))
