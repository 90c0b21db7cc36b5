use Rattle.call_rules.proofs.LookedUp.{next_objects}
use Rattle.call_rules.proofs.laws.shapes.next_entries_are_next_objects.Goals as goal

pub returns : goal.returns
returns c = next_objects
