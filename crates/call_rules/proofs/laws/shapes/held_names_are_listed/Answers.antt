use Rattle.call_rules.proofs.ShownNames.{held_listed}
use Rattle.call_rules.proofs.laws.shapes.held_names_are_listed.Goals as goal

pub returns : goal.returns
returns c = held_listed
