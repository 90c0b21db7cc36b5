use Rattle.call_rules.proofs.Rooms.{objects_fit}
use Rattle.call_rules.proofs.laws.shapes.objects_fit_entries.Goals as goal

pub returns : goal.returns
returns c = objects_fit
