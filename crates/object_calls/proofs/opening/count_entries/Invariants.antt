use Rattle.object_calls.proofs.EntryCounting.{IsCount}
use Rattle.object_calls.proofs.opening.count_entries.Given as goal

abbrev pub invariant-loop-index : goal.invariant-loop-index
invariant-loop-index g l = IsCount l.gate.dir.dir.entries l.index l.count
