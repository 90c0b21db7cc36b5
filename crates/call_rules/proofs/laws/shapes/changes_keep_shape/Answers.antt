use Rattle.call_rules.proofs.MadeShapes.{change_keeps}
use Rattle.call_rules.proofs.laws.shapes.changes_keep_shape.Goals as goal

pub returns : goal.returns
returns c = change_keeps
