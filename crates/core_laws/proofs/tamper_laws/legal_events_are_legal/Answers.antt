use Rattle.core_laws.proofs.Narrowing.{answered_each, legal_each}
use Rattle.core_laws.proofs.tamper_laws.legal_events_are_legal.Goals as goal

pub returns : goal.returns
returns c store scenario records legal = (answered_each store scenario records legal, legal_each store scenario records legal)
