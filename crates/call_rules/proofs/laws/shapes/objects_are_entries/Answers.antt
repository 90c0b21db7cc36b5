use Rattle.call_rules.proofs.CountedShapes.{objects_entries}
use Rattle.call_rules.proofs.laws.shapes.objects_are_entries.Goals as goal

pub returns : goal.returns
returns c = objects_entries
