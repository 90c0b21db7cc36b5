-- The law is the lemma.
use Rattle.call_rules.proofs.CommitOpens.{opening-open}
use Rattle.call_rules.proofs.laws.opens.openings_are_open.Goals as goal

pub returns : goal.returns
returns c = opening-open
