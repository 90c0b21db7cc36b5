use Rattle.std.proofs.Common.{◌≡◌, ◌+◌, ◌≤◌, vec_len}
use Rattle.std.specs.Vec.{vec_capacity}
use Rattle.quota_store.specs.Callers.{QuotaCaller}
use Rattle.quota_store.specs.Halves.{AreHalves}
use Rattle.quota_store.specs.Sharing.{AreCallers}
use Rattle.quota_store.proofs.TurnedLists.{IsTurned}
use Rattle.quota_store.proofs.joining.join_halves.Given as goal

abbrev pub invariant-loop-session : goal.invariant-loop-session
invariant-loop-session g l = record {
  same : l.gate ≡ l.initial.gate;
  turned : IsTurned (λ (q : QuotaCaller g.row.E.Denot). q.caller) l.fn.sessions.items l.left.items l.joined.items;
  callers : AreCallers g.L.StoreName.store l.left.items;
  halves : AreHalves g.L.StoreName.store l.places.items;
  few : vec_len l.joined + vec_len l.left ≤ vec_len l.fn.sessions;
  room : vec_len l.fn.sessions ≤ vec_capacity l.joined;
}

abbrev pub decreases-loop-session : goal.decreases-loop-session
decreases-loop-session g l = vec_len l.left
