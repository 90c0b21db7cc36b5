use Rattle.crash_core.proofs.ObjectChanges.{object_of-resized}
use Rattle.crash_core.proofs.laws.lengths_are_sizes.Goals as goal

pub returns : goal.returns
returns c = object_of-resized
