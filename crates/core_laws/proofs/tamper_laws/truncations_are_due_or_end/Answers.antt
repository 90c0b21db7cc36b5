use Rattle.core_laws.proofs.StagedChanges.{truncations_due}
use Rattle.core_laws.proofs.tamper_laws.truncations_are_due_or_end.Goals as goal

pub returns : goal.returns
returns c = truncations_due
