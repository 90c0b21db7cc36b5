-- The law is the lemma.
use Rattle.call_rules.proofs.CommitOpens.{landed-open}
use Rattle.call_rules.proofs.laws.opens.landed_commits_keep_open.Goals as goal

pub returns : goal.returns
returns c entries old new s doubt counter made change object are_open well distinct due makes is notes =
    landed-open entries old new s doubt.session are_open well distinct counter doubt.call made change object
    (record { due = due; makes = makes; enters = is.enters; place = is.place }) notes
