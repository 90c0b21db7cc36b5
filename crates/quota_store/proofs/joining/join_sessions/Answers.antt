use Rattle.quota_store.proofs.KeptHalves.{halves_empty}
use Rattle.quota_store.proofs.joining.join_sessions.Goals as goal

pub gather_halves-requires : goal.gather_halves-requires
gather_halves-requires g c = halves_empty c.into_places-places.result.items c.into_places-places.ensures g.L.StoreName.store
