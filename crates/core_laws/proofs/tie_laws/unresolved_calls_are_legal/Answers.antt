use Rattle.core_laws.proofs.LegalEvents.{unresolved_legal}
use Rattle.core_laws.proofs.tie_laws.unresolved_calls_are_legal.Goals as goal

pub returns : goal.returns
returns c = unresolved_legal
