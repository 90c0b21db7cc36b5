use Rattle.std.proofs.Common.{vec_len}
use Rattle.quota_store.specs.Halves.{AreHalves}
use Rattle.quota_store.proofs.joining.put_halves.Given as goal

abbrev pub invariant-loop-half : goal.invariant-loop-half
invariant-loop-half g l = record { kept : AreHalves g.L.StoreName.store l.left.items; halves : AreHalves g.L.StoreName.store l.places.items }

abbrev pub decreases-loop-half : goal.decreases-loop-half
decreases-loop-half g l = vec_len l.left
