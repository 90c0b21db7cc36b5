-- The sessions that were cut come behind their locks unchanged.
use Rattle.std.proofs.Common.{◌≡◌, ◌∙◌, ◌++◌, List, drop, length, map, take, sym, ap, subst}
use Rattle.quota_store.specs.Callers.{QuotaCaller}
use Rattle.quota_store.specs.Halves.{AreHalves}
use Rattle.quota_store.specs.Sharing.{AreAllKept, AreOfApps, callers_of, limited_by}
use Rattle.quota_store.proofs.CutSessions.{callers_limited, limited_apps}
use Rattle.quota_store.proofs.KeptHalves.{refilled}
use Rattle.quota_store.proofs.sharing.share_sessions.Goals as goal

pub lock_apps-locks-requires-clause-apps : goal.lock_apps-locks-requires-clause-apps
lock_apps-locks-requires-clause-apps g c =
    subst (λ (l : List (QuotaCaller g.row.E.Denot)). AreOfApps g.L.StoreName.store l) (sym (c.deref_mut.ensures.value ∙ c.cut_sessions-halved.ensures.sessions))
    (limited_apps c.args.quotas.now g.L.StoreName.store c.args.sessions.items c.requires.seated)

pub lock_apps-locks-requires-clause-halves : goal.lock_apps-locks-requires-clause-halves
lock_apps-locks-requires-clause-halves g c = subst (AreHalves g.L.StoreName.store) (sym c.deref_mut-2.ensures.value) c.cut_sessions-halved.ensures.halves

pub lock_apps-locks-requires-clause-all : goal.lock_apps-locks-requires-clause-all
lock_apps-locks-requires-clause-all g c = subst (AreAllKept g.L.StoreName.store) (sym c.deref_mut-2.ensures.value) c.cut_sessions-halved.ensures.all

pub returns-clause-callers : goal.returns-clause-callers
returns-clause-callers g c =
    let cut = c.cut_sessions-halved in
    let halved = cut.result in
    let new : List (QuotaCaller g.row.E.Denot) = c.lock_apps-locks.new.sessions in
    let same : new ≡ halved.items = c.lock_apps-locks.ensures ∙ c.deref_mut.ensures.value in
    let whole : take halved.len (new ++ drop (length new) halved.items) ≡ map (limited_by c.args.quotas.now) c.args.sessions.items =
    refilled halved.len halved.items new (sym halved.ok.0) (ap length same ∙ sym halved.ok.0) ∙ same ∙ cut.ensures.sessions in
    ap (λ (l : List (QuotaCaller g.row.E.Denot)). callers_of l) whole ∙ callers_limited c.args.quotas.now c.args.sessions.items
