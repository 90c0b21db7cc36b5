-- The journal with one seat less out.
use Rattle.history_seats.specs.Changes.{without_pass}
use Rattle.commit_gate.proofs.Journals.{without_pass-journal, renewed-parts}
use Rattle.commit_gate.proofs.journal.Journal.retire_pass.Goals as goal

pub invariant_of-self : goal.invariant_of-self
invariant_of-self g c =
    let store = g.L.StoreName.store in
    let inside = c.self.inside in
    let knows = inside.seat.knows in
    renewed-parts store inside.table inside.seat inside.history.events inside.decided c.self.invariant (without_pass c.args.pass.knows knows) inside.history.events
    inside.decided c.retire_pass.new.self c.self.invariant.events_are c.self.invariant.decided_is (without_pass-journal store knows c.self.invariant.kept c.args.pass.knows) c.retire_pass.ensures.gate

pub returns-clause-kept : goal.returns-clause-kept
returns-clause-kept g c = (invariant_of-self g c).kept
