use Rattle.call_rules.proofs.LookedUp.{named_objects}
use Rattle.call_rules.proofs.laws.shapes.named_entries_are_objects.Goals as goal

pub returns : goal.returns
returns c = named_objects
