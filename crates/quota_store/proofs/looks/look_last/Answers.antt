-- The session's own kept half is back with the others, and all are shown the history.
use Rattle.std.proofs.Common.{◌<◌, length, sym, subst, arith}
use Rattle.quota_store.specs.Halves.{AllFit}
use Rattle.quota_store.proofs.KeptHalves.{lent_shown}
use Rattle.quota_store.proofs.KeptSeats.{shown_back}
use Rattle.quota_store.proofs.looks.look_last.Goals as goal

pub returns-clause-shown : goal.returns-clause-shown
returns-clause-shown g c =
    let cut = c.cut-half in
    let between = cut.new.kept in
    let gate = c.gate.inside.gate.journal.knows in
    let lent = c.deref_mut.ensures.value in
    let within : c.args.session.now.number < length c.args.kept.now.items = omega (arith, c.requires.place, c.args.kept.now.ok.0) in
    shown_back g.L.StoreName.store c.args.session.now.number cut.result.knows c.args.kept.now.items between.items cut.ensures.kept gate _ within
    (subst (AllFit gate) lent c.show_halves.ensures.fits) c.gate.invariant.sessions
    (lent_shown gate between.items between.len c.deref_mut.result.now c.show_halves.new.kept (sym between.ok.0) lent c.show_halves.ensures.shown)
