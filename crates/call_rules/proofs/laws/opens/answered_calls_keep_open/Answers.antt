-- The law is the lemma.
use Rattle.call_rules.proofs.LinkedCalls.{linked}
use Rattle.call_rules.proofs.laws.opens.answered_calls_keep_open.Goals as goal

pub returns : goal.returns
returns c entries old new s i file call are_open within quiet opened notes = linked entries old new s i file are_open within call quiet opened notes
