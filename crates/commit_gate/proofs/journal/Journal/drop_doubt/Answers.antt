-- The journal without a doubt.
use Rattle.std.proofs.Common.{ap, ◌∙◌, length}
use Rattle.std.proofs.lemmas.List.{length-map}
use Rattle.history_seats.specs.Records.{HistoryRecord}
use Rattle.history_seats.specs.Changes.{doubt_dropped}
use Rattle.commit_gate.proofs.Journals.{dropped-journal, renewed-parts}
use Rattle.commit_gate.proofs.journal.Journal.drop_doubt.Goals as goal

pub invariant_of-self : goal.invariant_of-self
invariant_of-self g c =
    let store = g.L.StoreName.store in
    let inside = c.self.inside in
    let knows = inside.seat.knows in
    renewed-parts store inside.table inside.seat inside.history.events inside.decided c.self.invariant (doubt_dropped knows) inside.history.events
    c.len-self-inside.result c.drop_doubt.new.self c.self.invariant.events_are (c.len-self-inside.ensures ∙ ap length c.self.invariant.events_are ∙ length-map knows.all (λ (x : HistoryRecord). x.event)) (dropped-journal store knows c.self.invariant.kept) c.drop_doubt.ensures

pub returns-clause-kept : goal.returns-clause-kept
returns-clause-kept g c = (invariant_of-self g c).kept
