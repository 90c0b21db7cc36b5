-- Where the attempt in one look ended nothing, the call goes the long way behind it.
use Rattle.std.proofs.Common.{Ok, Option, subst}
use Rattle.shared_calls.specs.Attempts.{EndsAttempt}
use Rattle.shared_calls.specs.SessionEvents.{IsWaiting}
use Rattle.shared_calls.specs.declared.PlacedReply.{PlacedReply}
use Rattle.shared_calls.proofs.CarriedAttempts.{call-grown}
use Rattle.shared_calls.proofs.Waiting.{calls-then, starves-then}
use Rattle.shared_calls.proofs.GoingOn.{waits-same}
use Rattle.shared_store.proofs.store.SharedStore.call.Goals as goal

pub returns-in_err-answer-clause-ends : goal.returns-in_err-answer-clause-ends
returns-in_err-answer-clause-ends g c =
    let was = c.args.session.now in
    starves-then g.L.StoreName.store was was c.try_at_once.new.session (waits-same g.L.StoreName.store was c.requires.caller) c.args.call.now c.from_residual.result c.from_residual.ensures.0
    c.in_err-answer.ensures.ends

pub call_from-requires : goal.call_from-requires
call_from-requires g c =
    let store = g.L.StoreName.store in
    let between = c.try_at_once.new.session in
    let waits : IsWaiting store c.args.session.now between =
    subst (λ (o : Option PlacedReply). EndsAttempt {X = Unit {0}} store c.args.session.now between c.args.call.now (Ok o)) c.in_default.is c.in_ok-answer.ensures.ends in
    record { caller = waits.caller }

pub returns-clause-ends : goal.returns-clause-ends
returns-clause-ends g c =
    let store = g.L.StoreName.store in
    let was = c.args.session.now in
    let between = c.try_at_once.new.session in
    calls-then store was between c.call_from.new.session
    (subst (λ (o : Option PlacedReply). EndsAttempt {X = Unit {0}} store was between c.args.call.now (Ok o)) c.in_default.is c.in_ok-answer.ensures.ends)
    c.args.call.now c.call_from.result c.call_from.ensures.ends

pub returns-clause-drawn : goal.returns-clause-drawn
returns-clause-drawn g c =
    call-grown (g.E.Entropy.faults c.args.session.now.entropy) (g.E.Entropy.faults c.try_at_once.new.session.entropy) (g.E.Entropy.faults c.call_from.new.session.entropy) c.call_from.result
    c.try_at_once.ensures.draws.counted c.call_from.ensures.drawn
