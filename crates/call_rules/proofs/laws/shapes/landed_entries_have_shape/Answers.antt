use Rattle.call_rules.proofs.MappedShapes.{landed_shape}
use Rattle.call_rules.proofs.laws.shapes.landed_entries_have_shape.Goals as goal

pub returns : goal.returns
returns c = landed_shape
