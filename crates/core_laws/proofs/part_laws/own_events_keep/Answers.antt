use Rattle.core_laws.proofs.OwnEvents.{own_events_keep}
use Rattle.core_laws.proofs.part_laws.own_events_keep.Goals as goal

pub returns : goal.returns
returns c = own_events_keep
