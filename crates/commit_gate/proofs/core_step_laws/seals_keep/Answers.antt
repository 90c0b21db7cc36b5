use Rattle.commit_gate.proofs.CommitFacts.{seals_keep}
use Rattle.commit_gate.proofs.core_step_laws.seals_keep.Goals as goal

pub returns : goal.returns
returns c = seals_keep
