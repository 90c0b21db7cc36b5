use Rattle.call_rules.proofs.LookedUp.{free_places}
use Rattle.call_rules.proofs.laws.shapes.free_places_are_room.Goals as goal

pub returns : goal.returns
returns c = free_places
