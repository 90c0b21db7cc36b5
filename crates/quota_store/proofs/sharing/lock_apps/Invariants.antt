use Rattle.std.proofs.Common.{◌≡◌, ◌+◌, ◌≤◌, vec_len}
use Rattle.std.specs.Vec.{vec_capacity}
use Rattle.quota_store.specs.Halves.{AreHalves}
use Rattle.quota_store.specs.Sharing.{AreTogether}
use Rattle.quota_store.proofs.sharing.lock_apps.Given as goal

abbrev pub invariant-loop-number : goal.invariant-loop-number
invariant-loop-number g l = record {
  same : l.sessions ≡ l.initial.sessions;
  halves : AreHalves g.L.StoreName.store l.kept;
  together : AreTogether g.L.StoreName.store l.kept;
  count : vec_len l.locks + vec_len l.places ≡ 16;
  few : vec_len l.locks ≤ l.number;
  room : 16 ≤ vec_capacity l.locks;
}
