use Rattle.core_laws.proofs.LegalEvents.{unmade_legal}
use Rattle.core_laws.proofs.tie_laws.unmade_commits_are_legal.Goals as goal

pub returns : goal.returns
returns c = unmade_legal
