-- The law is the lemma.
use Rattle.call_rules.proofs.CommitOpens.{made-open}
use Rattle.call_rules.proofs.laws.opens.made_commits_keep_open.Goals as goal

pub returns : goal.returns
returns c entries old new s i file counter call made change object are_open well distinct within due makes is puts notes =
    made-open entries old new s i are_open well distinct counter file within call made change object
    (record { due = due; makes = makes; enters = is.enters; place = is.place }) puts notes
