use Rattle.std.proofs.Common.{◌≡◌, ◌≤◌, length, vec_len}
use Rattle.std.specs.Vec.{vec_capacity}
use Rattle.run_acts.specs.QuotaCrews.{AreHired}
use Rattle.run_acts.proofs.quota_crew.hire.Given as goal

abbrev pub invariant-loop-session : goal.invariant-loop-session
invariant-loop-session g l = record {
  hired : AreHired l.yielded l.workers.items;
  many : vec_len l.workers ≡ length l.yielded;
  room : 16 ≤ vec_capacity l.workers;
}
