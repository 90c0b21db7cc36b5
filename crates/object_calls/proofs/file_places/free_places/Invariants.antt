use Rattle.std.proofs.Common.{◌≡◌, None, vec_len}
use Rattle.std.specs.Prelude.{All}
use Rattle.object_calls.proofs.file_places.free_places.Given as goal

abbrev pub invariant-loop : goal.invariant-loop
invariant-loop g l = record { many : vec_len l.places ≡ l.counter; none : All (λ place. place ≡ None) l.places.items }
