-- The law is the lemma.
use Rattle.call_rules.proofs.OpenCalls.{undone_open}
use Rattle.call_rules.proofs.laws.opens.undone_calls_keep_open.Goals as goal

pub returns : goal.returns
returns c = undone_open
