use Rattle.std.proofs.Common.{◌≡◌}
use Rattle.quota_store.proofs.sharing.tell_lock.Given as goal

abbrev pub invariant-loop-session : goal.invariant-loop-session
invariant-loop-session g l = l.sessions ≡ l.initial.sessions
