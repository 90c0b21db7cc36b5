use Rattle.std.proofs.Common.{◌≡◌, ◌≤◌, length, vec_len}
use Rattle.std.specs.Vec.{vec_capacity}
use Rattle.run_acts.specs.QuotaCrews.{lists_of, sessions_of}
use Rattle.run_acts.proofs.quota_crew.dismiss.Given as goal

abbrev pub invariant-loop-worker : goal.invariant-loop-worker
invariant-loop-worker g l = record {
  sessions : l.sessions.items ≡ sessions_of l.yielded;
  lists : l.lists.items ≡ lists_of l.yielded;
  sessions_many : vec_len l.sessions ≡ length l.yielded;
  lists_many : vec_len l.lists ≡ length l.yielded;
  room : 16 ≤ vec_capacity l.sessions;
  list_room : 16 ≤ vec_capacity l.lists;
}
