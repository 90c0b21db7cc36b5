use Rattle.std.proofs.Common.{◌≡◌, ◌∙◌, List, length, sym, ap, subst, arith}
use Rattle.std.specs.List.{list_all}
use Rattle.object_calls.proofs.Files.{refilled}
use Rattle.quota_store.specs.Callers.{QuotaCaller}
use Rattle.quota_store.specs.Sharing.{callers_of}
use Rattle.quota_store.specs.CallerSessions.{CallerSession}
use Rattle.run_acts.specs.OwnQuotas.{lists_in}
use Rattle.run_acts.specs.QuotaCrews.{lists_of, sessions_of}
use Rattle.run_acts.specs.QuotaWork.{AreLimited, AreUnworked, LeaveWork}
use Rattle.run_acts.specs.declared.quota_worker.QuotaWorker.{QuotaWorker}
use Rattle.run_acts.specs.declared.refused_call.RefusedCall.{RefusedCall}
use Rattle.run_acts.proofs.QuotaCrews.{hired-limited, hired-unworked, leave-work, many-hired}
use Rattle.run_acts.proofs.quota_threads.make_beside_within.Goals as goal

pub work_beside-requires-after_bounds : goal.work_beside-requires-after_bounds
work_beside-requires-after_bounds g c κs within =
    subst (λ (l : List (QuotaWorker g.row.E.Denot)). AreUnworked g.L.StoreName.store l) (sym c.deref_mut.ensures.value)
    (hired-unworked c.args.sessions.items c.hire-workers.result.items c.hire-workers.ensures g.L.StoreName.store c.requires.callers)

pub dismiss-sessions-requires-clause-few : goal.dismiss-sessions-requires-clause-few
dismiss-sessions-requires-clause-few g c =
    omega (arith, c.hire-workers.result.ok.0, many-hired c.args.sessions.items c.hire-workers.result.items c.hire-workers.ensures, c.args.sessions.ok.0, c.requires.few)

pub returns : goal.returns
returns g c = λ limits limited.
    let store = g.L.StoreName.store in
    let is_reliable = g.E.Entropy.is_reliable in
    let draws = g.E.Entropy.faults in
    let steps = c.args.calls.now in
    let sessions : List (QuotaCaller g.row.E.Denot) = c.args.sessions.items in
    let hired = c.hire-workers.result in
    let was : List (QuotaWorker g.row.E.Denot) = c.deref_mut.result.now in
    let new : List (QuotaWorker g.row.E.Denot) = c.work_beside.new.workers in
    let begun : was ≡ hired.items = c.deref_mut.ensures.value in
    let long : length hired.items ≡ hired.len = sym hired.ok.0 in
    let many : length new ≡ hired.len = c.work_beside.auto.workers ∙ c.deref_mut.ensures.len in
    let left = refilled hired.len hired.items new long many in
    let limited_all = subst (λ (l : List (QuotaWorker g.row.E.Denot)). AreLimited limits l) (sym begun) (hired-limited sessions hired.items c.hire-workers.ensures limits limited) in
    let done = c.are_done-done.result in
    let done_is = c.are_done-done.ensures ∙ ap (list_all (λ (w : QuotaWorker g.row.E.Denot). w.done)) (c.deref.ensures.value ∙ left) in
    let callers = λ (l : List (QuotaCaller g.row.E.Denot)). callers_of l in
    let behind = c.dismiss-sessions.result in
    let first = ap callers (ap (λ (l : List (QuotaWorker g.row.E.Denot)). sessions_of l) begun ∙ c.hire-workers.ensures.sessions_are) in
    let last = ap callers (ap (λ (l : List (QuotaWorker g.row.E.Denot)). sessions_of l) (sym left) ∙ sym c.dismiss-sessions.ensures.sessions) in
    let lists = ap lists_in (ap (λ (l : List (QuotaWorker g.row.E.Denot)). lists_of l) (sym left) ∙ sym c.dismiss-sessions.ensures.lists) in
    subst (λ (l : List (CallerSession g.row.E.Denot)). LeaveWork is_reliable draws store limits steps done l (callers behind.sessions.items) (lists_in behind.lists.items)) first
    (subst (λ (l : List (CallerSession g.row.E.Denot)). LeaveWork is_reliable draws store limits steps done (callers (sessions_of was)) l (lists_in behind.lists.items)) last
    (subst (λ (l : List (List RefusedCall)). LeaveWork is_reliable draws store limits steps done (callers (sessions_of was)) (callers (sessions_of new)) l) lists
    (leave-work is_reliable draws store limits steps was new c.work_beside.auto.workers (c.work_beside.ensures limits limited_all) done done_is)))
