use Rattle.crash_core.proofs.ObjectChanges.{object_of-written}
use Rattle.crash_core.proofs.laws.writes_are_of_objects.Goals as goal

pub returns : goal.returns
returns c = object_of-written
