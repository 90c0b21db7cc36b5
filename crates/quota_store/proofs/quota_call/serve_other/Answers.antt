-- The call is served, and is within any limit.
use Rattle.std.proofs.Common.{Some, subst}
use Rattle.shared_store.specs.Attempts.{IsAnswered}
use Rattle.shared_store.specs.SessionEvents.{IsWaiting}
use Rattle.shared_store.specs.CallerSessions.{CallerSession}
use Rattle.shared_store.specs.SharedCounts.{CarriesDraws}
use Rattle.shared_store.proofs.QuotaCallers.{waiting-limits}
use Rattle.quota_store.proofs.LockedCalls.{answered-other, carries-starved, ends-starved}
use Rattle.quota_store.proofs.quota_call.serve_other.Goals as goal

pub returns-in_err-answer-clause-ends : goal.returns-in_err-answer-clause-ends
returns-in_err-answer-clause-ends g c =
    let store = g.L.StoreName.store in
    let now = c.call_from.new.session in
    let was : CallerSession g.row.E.Denot = record c.args.session.now { pass = Some c.args.seat.one } in
    ends-starved store c.args.limit was now c.args.call.now c.from_residual.result c.from_residual.ensures.0
    (subst (λ (s : CallerSession g.row.E.Denot). IsWaiting store s now) c.join.ensures.session c.in_err-answer.ensures.ends)

pub returns-in_err-answer-clause-limits : goal.returns-in_err-answer-clause-limits
returns-in_err-answer-clause-limits g c =
    let store = g.L.StoreName.store in
    let now = c.call_from.new.session in
    let was : CallerSession g.row.E.Denot = record c.args.session.now { pass = Some c.args.seat.one } in
    waiting-limits store c.args.limit was now (subst (λ (s : CallerSession g.row.E.Denot). IsWaiting store s now) c.join.ensures.session c.in_err-answer.ensures.ends)

pub returns-in_err-answer-clause-drawn : goal.returns-in_err-answer-clause-drawn
returns-in_err-answer-clause-drawn g c =
    carries-starved (g.E.Entropy.faults c.args.session.now.entropy) (g.E.Entropy.faults c.call_from.new.session.entropy) c.from_residual.result c.from_residual.ensures.0

pub returns-clause-ends : goal.returns-clause-ends
returns-clause-ends g c =
    subst (λ (s : CallerSession g.row.E.Denot). IsAnswered g.L.StoreName.store s c.call_from.new.session c.args.call.now c.in_ok-answer.answer) c.join.ensures.session c.in_ok-answer.ensures.ends

pub returns-clause-limits : goal.returns-clause-limits
returns-clause-limits g c =
    let store = g.L.StoreName.store in
    let now = c.call_from.new.session in
    let was : CallerSession g.row.E.Denot = record c.args.session.now { pass = Some c.args.seat.one } in
    answered-other store c.args.limit was now c.args.call.now c.in_ok-answer.answer
    (subst (λ (s : CallerSession g.row.E.Denot). IsAnswered store s now c.args.call.now c.in_ok-answer.answer) c.join.ensures.session c.in_ok-answer.ensures.ends) c.requires.other_call

pub returns-clause-drawn : goal.returns-clause-drawn
returns-clause-drawn g c =
    let faults = g.E.Entropy.faults in
    subst (λ (s : CallerSession g.row.E.Denot). CarriesDraws (faults s.entropy) (faults c.call_from.new.session.entropy) c.in_ok-answer.answer.reply) c.join.ensures.session c.in_ok-answer.ensures.drawn
