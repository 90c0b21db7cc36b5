-- The law is the lemma.
use Rattle.call_rules.proofs.HandleLaws.{answered_handles_are_well_opened}
use Rattle.call_rules.proofs.laws.handles.answered_handles_are_well_opened.Goals as goal

pub returns : goal.returns
returns c = answered_handles_are_well_opened
