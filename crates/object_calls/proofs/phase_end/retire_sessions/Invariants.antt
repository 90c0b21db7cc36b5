use Rattle.std.proofs.Common.{◌≡◌, vec_len}
use Rattle.object_calls.proofs.Retirings.{AreLastCounted}
use Rattle.object_calls.proofs.phase_end.retire_sessions.Given as goal

abbrev pub invariant-loop-session : goal.invariant-loop-session
invariant-loop-session g l = record {
  journal : l.journal ≡ record l.initial.journal { knows = record l.initial.journal.knows { sessions = l.journal.knows.sessions } };
  counted : AreLastCounted l.initial.journal.knows l.fn.sessions.items l.journal.knows l.sessions.items;
}

abbrev pub decreases-loop-session : goal.decreases-loop-session
decreases-loop-session g l = vec_len l.sessions
