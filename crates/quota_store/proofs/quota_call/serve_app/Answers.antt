-- All kept halves of the application's sessions are behind its lock again, and the session has its own.
use Rattle.std.proofs.Common.{◌≡◌, ◌∙◌, ℕ, Some, ap, subst, sym}
use Rattle.app_totals.specs.declared.numbers.Totals.{Totals}
use Rattle.shared_store.specs.CallerSessions.{CallerSession}
use Rattle.shared_store.specs.QuotaCallers.{KeepsLimits}
use Rattle.quota_store.specs.Callers.{QuotaCaller}
use Rattle.quota_store.specs.Halves.{app_at}
use Rattle.quota_store.specs.LockedCalls.{KeepsHalves}
use Rattle.quota_store.proofs.AppCalls.{all_back, same_app}
use Rattle.quota_store.proofs.CutSessions.{given_back}
use Rattle.quota_store.proofs.KeptHalves.{Places}
use Rattle.quota_store.proofs.quota_call.serve_app.Goals as goal

pub invariant_of-halves-2 : goal.invariant_of-halves-2
invariant_of-halves-2 g c =
    let store = g.L.StoreName.store in
    let app = c.halves.inside.app in
    let kept = c.halves.inside.kept.items in
    let after = c.serve_locked-half.new.kept.items in
    let here : c.number.result ≡ c.args.session.now.caller.number = c.number.ensures in
    let there : c.session.inside.session.number ≡ c.number.result = ap (λ (q : QuotaCaller g.row.E.Denot). q.caller.number) (c.session.view_is ∙ c.lend_half-one.ensures.session) ∙ sym here in
    let own : app ≡ app_at store c.number.result =
    same_app app c.app.result c.ne.result c.ne.ensures c.if-ne.false ∙ c.app.ensures ∙ c.requires.caller.session.application ∙ ap (app_at store) (sym here) in
    all_back store app kept c.number.result own after c.in_ok-other.other (sym c.in_ok-other.ensures.half) c.halves.invariant
    (subst (λ (x : ℕ × Places). KeepsHalves store x.0 x.1 after) (λ i. (there i, c.take_half.ensures.left i)) c.serve_locked-half.ensures.halves)

pub returns-clause-limits : goal.returns-clause-limits
returns-clause-limits g c =
    let was = c.args.session.now in
    let one = c.lend_half-one.result in
    let now : CallerSession g.row.E.Denot = record c.serve_locked-half.new.session { pass = Some c.serve_locked-half.result.0 } in
    let lent = c.session.view_is ∙ c.lend_half-one.ensures.session in
    let limit : c.session.inside.limit ≡ was.limit = ap (λ (q : QuotaCaller g.row.E.Denot). q.limit) lent in
    let caller = ap (λ (q : QuotaCaller g.row.E.Denot). record q.caller { pass = Some one }) lent ∙ given_back was.caller one c.lend_half-one.ensures.half in
    subst (λ (x : Totals × CallerSession g.row.E.Denot). KeepsLimits g.L.StoreName.store x.0 x.1 now) (λ i. (limit i, caller i)) c.serve_locked-half.ensures.limits
