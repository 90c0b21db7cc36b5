use Rattle.std.proofs.Common.{◌≡◌}
use Rattle.quota_store.proofs.joining.await_half.Given as goal

abbrev pub invariant-loop : goal.invariant-loop
invariant-loop g l = l.places.items ≡ l.fn.places.items
