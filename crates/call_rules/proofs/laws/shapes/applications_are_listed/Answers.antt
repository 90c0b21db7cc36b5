use Rattle.call_rules.proofs.LookedUp.{applications_listed}
use Rattle.call_rules.proofs.laws.shapes.applications_are_listed.Goals as goal

pub returns : goal.returns
returns c = applications_listed
