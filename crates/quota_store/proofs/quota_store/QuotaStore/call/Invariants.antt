use Rattle.std.proofs.Common.{◌≡◌}
use Rattle.quota_store.proofs.quota_store.QuotaStore.call.Given as goal

abbrev pub invariant-loop : goal.invariant-loop
invariant-loop g l = l.session ≡ l.fn.session
