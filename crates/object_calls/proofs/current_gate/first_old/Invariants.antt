-- None of the entries before the next is of the old format.
use Rattle.crash_core.proofs.OldFormats.{NoneOldBelow}
use Rattle.object_calls.proofs.current_gate.first_old.Given as goal

abbrev pub invariant-loop-index : goal.invariant-loop-index
invariant-loop-index g l = NoneOldBelow l.gate.dir.dir.entries l.index
