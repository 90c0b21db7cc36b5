use Rattle.std.proofs.Common.{◌∙◌, Some, sym, subst}
use Rattle.shared_store.specs.CallerSessions.{CallerSession}
use Rattle.shared_store.specs.ForeseenCalls.{EndsForecast}
use Rattle.shared_store.specs.GuardedGates.{GuardedGateValue}
use Rattle.quota_store.specs.Halves.{AreHalves}
use Rattle.quota_store.specs.LockedCalls.{AreKeptAlike}
use Rattle.quota_store.proofs.KeptHalves.{alike_shown, halves_are_shown, lent_shown}
use Rattle.quota_store.proofs.looks.look_first.Goals as goal

pub returns-clause-ends : goal.returns-clause-ends
returns-clause-ends g c =
    let store = g.L.StoreName.store in
    let foreseen = c.forecast-foreseen in
    let call = c.args.call.now in
    let was : CallerSession g.row.E.Denot = record c.args.session.now { pass = Some c.args.seat.one } in
    subst (λ (x : GuardedGateValue g.row.F.Denot g.row.R.Denot). EndsForecast store x.journal.knows was foreseen.new.session call foreseen.result) (sym (c.show_halves.ensures.same ∙ c.gate.view_is))
    (subst (λ (s : CallerSession g.row.E.Denot). EndsForecast store foreseen.new.gate.journal.knows s foreseen.new.session call foreseen.result) c.join.ensures.session foreseen.ensures.ends)

pub returns-clause-halves : goal.returns-clause-halves
returns-clause-halves g c =
    let kept = c.args.kept.now in
    let gate = c.gate.inside.gate.journal.knows in
    subst (AreHalves g.L.StoreName.store) (sym (lent_shown gate kept.items kept.len c.deref_mut.result.now c.show_halves.new.kept (sym kept.ok.0) c.deref_mut.ensures.value c.show_halves.ensures.shown))
    (halves_are_shown gate kept.items g.L.StoreName.store c.requires.halves)

pub returns-clause-alike : goal.returns-clause-alike
returns-clause-alike g c =
    let kept = c.args.kept.now in
    let gate = c.gate.inside.gate.journal.knows in
    subst (AreKeptAlike kept.items) (sym (lent_shown gate kept.items kept.len c.deref_mut.result.now c.show_halves.new.kept (sym kept.ok.0) c.deref_mut.ensures.value c.show_halves.ensures.shown))
    (alike_shown gate kept.items)
