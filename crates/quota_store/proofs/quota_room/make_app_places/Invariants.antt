use Rattle.std.proofs.Common.{◌≡◌, vec_len}
use Rattle.quota_store.proofs.quota_room.make_app_places.Given as goal

abbrev pub invariant-loop : goal.invariant-loop
invariant-loop l = vec_len l.places ≡ l.counter
