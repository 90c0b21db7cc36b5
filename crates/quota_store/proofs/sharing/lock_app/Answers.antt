use Rattle.std.proofs.Common.{◌≡◌, ◌∙◌, arith}
use Rattle.quota_store.specs.Halves.{app_at}
use Rattle.quota_store.proofs.AppSessions.{halves_left, own_halves, together_left}
use Rattle.quota_store.proofs.sharing.lock_app.Goals as goal

pub new-requires : goal.new-requires
new-requires g c =
    let store = g.L.StoreName.store in
    let r = c.requires in
    let read = c.index-sessions-number in
    let own = c.take_own-own in
    let app : c.app-app.result ≡ app_at store c.args.number =
    c.app-app.ensures ∙ r.apps c.args.number read.result r.number in
    own_halves c.app-app.result c.args.sessions.now store r.sessions r.apps c.args.kept.now own.new.kept own.result.items own.ensures r.halves r.together c.args.number
    (omega (arith, r.number, r.sessions)) r.here app

pub returns-clause-halves : goal.returns-clause-halves
returns-clause-halves g c =
    let own = c.take_own-own in
    halves_left c.app-app.result c.args.sessions.now g.L.StoreName.store c.requires.sessions c.requires.apps c.args.kept.now own.new.kept own.result.items own.ensures c.requires.halves

pub returns-clause-together : goal.returns-clause-together
returns-clause-together g c =
    let own = c.take_own-own in
    together_left c.app-app.result c.args.sessions.now g.L.StoreName.store c.requires.sessions c.requires.apps c.args.kept.now own.new.kept own.result.items own.ensures c.requires.together
