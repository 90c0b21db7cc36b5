use Rattle.core_laws.proofs.StagedChanges.{writes_due}
use Rattle.core_laws.proofs.tamper_laws.writes_are_due_or_end.Goals as goal

pub returns : goal.returns
returns c = writes_due
