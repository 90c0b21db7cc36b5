use Rattle.object_slots.proofs.VersionLaws.{loaded_are_versions}
use Rattle.object_slots.proofs.slot_laws.loaded_are_versions.Goals as goal

pub returns : goal.returns
returns c = loaded_are_versions
