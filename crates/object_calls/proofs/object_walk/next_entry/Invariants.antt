use Rattle.object_calls.proofs.NextEntries.{IsNextBefore}
use Rattle.object_calls.proofs.object_walk.next_entry.Given as goal

abbrev pub invariant-loop-index : goal.invariant-loop-index
invariant-loop-index g l = IsNextBefore l.gate.dir.dir.entries l.after l.index l.best
