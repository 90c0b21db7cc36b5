use Rattle.object_slots.proofs.VersionLaws.{stages_are_versions}
use Rattle.object_slots.proofs.slot_laws.stages_are_versions.Goals as goal

pub returns : goal.returns
returns c = stages_are_versions
