use Rattle.object_slots.proofs.VersionLaws.{versions_are_held}
use Rattle.object_slots.proofs.slot_laws.versions_are_held.Goals as goal

pub returns : goal.returns
returns c = versions_are_held
