use Rattle.std.proofs.Common.{◌≡◌, false, vec_len}
use Rattle.std.specs.Prelude.{All, is_some}
use Rattle.quota_store.proofs.places.make_places.Given as goal

abbrev pub invariant-loop : goal.invariant-loop
invariant-loop l = record { many : vec_len l.places ≡ l.counter; empty : All (λ place. is_some place ≡ false) l.places.items }
