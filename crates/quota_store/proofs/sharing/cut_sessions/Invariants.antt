use Rattle.std.proofs.Common.{◌≡◌, ◌+◌, ◌<◌, ◌≤◌, ℕ, true, length, vec_len}
use Rattle.std.specs.Prelude.{is_some}
use Rattle.std.specs.Vec.{vec_capacity}
use Rattle.quota_store.specs.Halves.{AreHalves, kept_at}
use Rattle.quota_store.specs.Sharing.{limited_by}
use Rattle.quota_store.proofs.CutSessions.{HaveSeats}
use Rattle.quota_store.proofs.TurnedLists.{IsTurned}
use Rattle.quota_store.proofs.sharing.cut_sessions.Given as goal

abbrev pub invariant-loop-session : goal.invariant-loop-session
invariant-loop-session g l = record {
  same : l.gate ≡ l.initial.gate;
  turned : IsTurned (limited_by l.quotas) l.fn.sessions.items l.left.items l.halved.items;
  seats : HaveSeats g.L.StoreName.store l.left.items;
  halves : AreHalves g.L.StoreName.store l.kept.items;
  there : (k : ℕ) → vec_len l.left ≤ k → k < length (g.L.StoreName.store).mounted.applications → is_some (kept_at l.kept.items k) ≡ true;
  many : vec_len l.kept ≡ 16;
  few : vec_len l.halved + vec_len l.left ≤ 16;
  room : 16 ≤ vec_capacity l.halved;
}

abbrev pub decreases-loop-session : goal.decreases-loop-session
decreases-loop-session g l = vec_len l.left
