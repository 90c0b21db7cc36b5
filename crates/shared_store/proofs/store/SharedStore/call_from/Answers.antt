-- Each attempt goes on from what was waited before it.
use Rattle.std.proofs.Common.{Ok, Option, refl, subst}
use Rattle.shared_calls.specs.Attempts.{EndsAttempt}
use Rattle.shared_calls.specs.declared.PlacedReply.{PlacedReply}
use Rattle.shared_calls.proofs.CountGrowth.{draws_none, draws_then}
use Rattle.shared_calls.proofs.Waiting.{answers-then, starves-then}
use Rattle.shared_calls.proofs.GoingOn.{waits-same, waits-then}
use Rattle.shared_store.proofs.store.SharedStore.call_from.Goals as goal

pub loop-init : goal.loop-init
loop-init g c =
    let first = c.args.session.now in
    record { waits = waits-same g.L.StoreName.store first c.requires.caller; draws = draws_none g.E.Entropy.is_reliable g.E.Entropy.faults first.entropy first.entropy refl }

pub loop-preserved : goal.loop-preserved
loop-preserved g c =
    let store = g.L.StoreName.store in
    let was = c.args.session.now in
    let between = c.loop.session in
    let now = c.try_once.new.session in
    let before = c.loop.invariant in
    record {
      waits = waits-then store was between now before.waits
          (subst (λ (o : Option PlacedReply). EndsAttempt {X = Unit {0}} store between now c.args.call.now (Ok o)) c.in_default.is c.in_ok-answer.ensures.ends);
      draws = draws_then g.E.Entropy.is_reliable g.E.Entropy.faults was.entropy between.entropy now.entropy before.draws c.try_once.ensures.draws;
    }

pub returns-in-Some-2-clause-ends : goal.returns-in-Some-2-clause-ends
returns-in-Some-2-clause-ends g c =
    let store = g.L.StoreName.store in
    let between = c.loop.session in
    let now = c.try_once.new.session in
    answers-then store c.args.session.now between now c.loop.invariant.waits c.args.call.now c.in-Some-2.answer
    (subst (λ (o : Option PlacedReply). EndsAttempt {X = Unit {0}} store between now c.args.call.now (Ok o)) c.in-Some-2.is c.in_ok-answer.ensures.ends)

pub returns-in_err-answer-clause-ends : goal.returns-in_err-answer-clause-ends
returns-in_err-answer-clause-ends g c =
    starves-then g.L.StoreName.store c.args.session.now c.loop.session c.try_once.new.session c.loop.invariant.waits c.args.call.now c.from_residual.result c.from_residual.ensures.0
    c.in_err-answer.ensures.ends
