use Rattle.std.proofs.Common.{◌<◌, length}
use Rattle.object_calls.specs.OpeningSessions.{AreCallers}
use Rattle.kept_trials.proofs.serving.make_calls.Given as goal

abbrev pub invariant-loop-call : goal.invariant-loop-call
invariant-loop-call g l = record {
  callers : AreCallers g.L.StoreName.store l.sessions;
  some : 0 < length l.sessions;
}
