use Rattle.core_laws.proofs.LegalEvents.{landing_legal}
use Rattle.core_laws.proofs.tie_laws.landings_are_legal.Goals as goal

pub returns : goal.returns
returns c = landing_legal
