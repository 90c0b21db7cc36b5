-- The journal with a landing more.
use Rattle.std.proofs.Common.{refl, sym, ap, subst}
use Rattle.store_model.specs.declared.event.Event.TheVariants.{Landed}
use Rattle.history_seats.specs.Changes.{landing_of, with_record}
use Rattle.history_seats.specs.Settling.{IsOpenDoubt}
use Rattle.history_seats.specs.Views.{GateView}
use Rattle.commit_gate.specs.Journals.{IsDoubtOf, JournalValue}
use Rattle.commit_gate.proofs.Journals.{landed-journal, more-events, renewed-parts}
use Rattle.commit_gate.proofs.journal.Journal.append_landed.Goals as goal

pub invariant_of-self : goal.invariant_of-self
invariant_of-self g c =
    let store = g.L.StoreName.store in
    let inside = c.self.inside in
    let knows = inside.seat.knows in
    let commit = c.args.commit in
    let same = ap (λ (v : JournalValue). v.knows) c.self.view_is in
    renewed-parts store inside.table inside.seat inside.history.events inside.decided c.self.invariant (with_record (landing_of commit) knows)
    c.append_landed.new.history.events inside.decided c.append_landed.new.self
    (more-events knows.all (landing_of commit) (Landed commit) inside.history.events c.append_landed.new.history.events c.self.invariant.events_are refl c.append_landed.ensures.history)
    c.self.invariant.decided_is
    (landed-journal store knows c.self.invariant.kept commit (subst (λ (v : GateView). IsOpenDoubt commit v.decided v.all) (sym same) c.requires.open)
    (subst (λ (v : GateView). IsDoubtOf store v commit) (sym same) c.requires.held))
    c.append_landed.ensures.gate

pub returns-clause-kept : goal.returns-clause-kept
returns-clause-kept g c = (invariant_of-self g c).kept
