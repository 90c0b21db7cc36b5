use Rattle.std.proofs.Common.{vec_len}
use Rattle.quota_store.specs.Halves.{AreHalves}
use Rattle.quota_store.proofs.joining.gather_halves.Given as goal

abbrev pub invariant-loop-lock : goal.invariant-loop-lock
invariant-loop-lock g l = AreHalves g.L.StoreName.store l.places.items

abbrev pub decreases-loop-lock : goal.decreases-loop-lock
decreases-loop-lock g l = vec_len l.left
