-- The journal with one record more.
use Rattle.std.proofs.Common.{sym, ap, subst}
use Rattle.history_seats.specs.Changes.{IsFitting, IsNextOf, record_of, view_in, with_record}
use Rattle.history_seats.specs.Views.{GateView}
use Rattle.history_seats.proofs.Tags.{event_in}
use Rattle.core_laws.specs.Answered.{IsFairAt}
use Rattle.commit_gate.specs.Journals.{JournalValue}
use Rattle.commit_gate.proofs.Journals.{calls_next, more-events, next-journal, renewed-parts}
use Rattle.commit_gate.proofs.journal.Journal.append.Goals as goal

pub invariant_of-self : goal.invariant_of-self
invariant_of-self g c =
    let store = g.L.StoreName.store in
    let inside = c.self.inside in
    let knows = inside.seat.knows in
    let versions = g.N.VersionsName.versions in
    let r = record_of c.args.event (view_in c.args.slot) versions in
    let same = ap (λ (v : JournalValue). v.knows) c.self.view_is in
    let is = event_in c.args.event (view_in c.args.slot) versions in
    renewed-parts store inside.table inside.seat inside.history.events inside.decided c.self.invariant (with_record r knows) c.append.new.history.events
    inside.decided c.append.new.self
    (more-events knows.all r c.args.event inside.history.events c.append.new.history.events c.self.invariant.events_are is c.append.ensures.history)
    c.self.invariant.decided_is
    (next-journal store knows c.self.invariant.kept r (calls_next c.args.pass.knows r.event (subst (IsNextOf c.args.pass.knows) (sym is) c.requires.next))
    (subst (λ (v : GateView). IsFitting v r) (sym same) c.requires.fitting)
    (λ scenario. subst (λ (v : GateView). IsFairAt store scenario v.all r) (sym same) (c.requires.fair scenario)))
    c.append.ensures.gate

pub returns-clause-kept : goal.returns-clause-kept
returns-clause-kept g c = (invariant_of-self g c).kept
