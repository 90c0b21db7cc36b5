-- The journal with one more seat out.
use Rattle.history_seats.specs.Changes.{with_slot_out}
use Rattle.commit_gate.proofs.Journals.{slot_out-journal, renewed-parts}
use Rattle.commit_gate.proofs.journal.Journal.split_slot.Goals as goal

pub invariant_of-self : goal.invariant_of-self
invariant_of-self g c =
    let store = g.L.StoreName.store in
    let inside = c.self.inside in
    let knows = inside.seat.knows in
    renewed-parts store inside.table inside.seat inside.history.events inside.decided c.self.invariant (with_slot_out store.mounted c.args.file knows) inside.history.events
    inside.decided c.split_slot.new.self c.self.invariant.events_are c.self.invariant.decided_is (slot_out-journal store knows c.self.invariant.kept c.args.file) c.split_slot.ensures.gate

pub returns-clause-kept : goal.returns-clause-kept
returns-clause-kept g c = (invariant_of-self g c).kept
