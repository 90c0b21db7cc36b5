use Rattle.call_rules.proofs.WeighedShapes.{totals_entries}
use Rattle.call_rules.proofs.laws.shapes.totals_are_of_entries.Goals as goal

pub returns : goal.returns
returns c = totals_entries
