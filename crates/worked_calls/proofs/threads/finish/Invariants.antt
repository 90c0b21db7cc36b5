use Rattle.std.proofs.Common.{◌≡◌, vec_len}
use Rattle.worked_calls.proofs.threads.finish.Given as goal

abbrev pub invariant-loop-caller : goal.invariant-loop-caller
invariant-loop-caller g l = record {
  table : l.table ≡ g.L.TableName.table;
  gate : l.gate.table ≡ g.L.TableName.table;
}

abbrev pub decreases-loop-caller : goal.decreases-loop-caller
decreases-loop-caller g l = vec_len l.callers
