-- The journal with one seat less out.
use Rattle.history_seats.specs.Changes.{without_slot}
use Rattle.commit_gate.proofs.Journals.{without_slot-journal, renewed-parts}
use Rattle.commit_gate.proofs.journal.Journal.retire.Goals as goal

pub invariant_of-self : goal.invariant_of-self
invariant_of-self g c =
    let store = g.L.StoreName.store in
    let inside = c.self.inside in
    let knows = inside.seat.knows in
    renewed-parts store inside.table inside.seat inside.history.events inside.decided c.self.invariant (without_slot c.args.slot.knows knows) inside.history.events
    inside.decided c.retire.new.self c.self.invariant.events_are c.self.invariant.decided_is (without_slot-journal store knows c.self.invariant.kept c.args.slot.knows) c.retire.ensures.gate

pub returns-clause-kept : goal.returns-clause-kept
returns-clause-kept g c = (invariant_of-self g c).kept
