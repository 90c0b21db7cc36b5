use Rattle.call_rules.proofs.MappedShapes.{mapped_shape}
use Rattle.call_rules.proofs.laws.shapes.mapped_entries_have_shape.Goals as goal

pub returns : goal.returns
returns c = mapped_shape
