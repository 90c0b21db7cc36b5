use Rattle.object_slots.proofs.VersionLaws.{made_are_versions}
use Rattle.object_slots.proofs.slot_laws.made_are_versions.Goals as goal

pub returns : goal.returns
returns c = made_are_versions
