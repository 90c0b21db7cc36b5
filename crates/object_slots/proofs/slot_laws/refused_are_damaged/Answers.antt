use Rattle.object_slots.proofs.VersionLaws.{refused_are_damaged}
use Rattle.object_slots.proofs.slot_laws.refused_are_damaged.Goals as goal

pub returns : goal.returns
returns c = refused_are_damaged
