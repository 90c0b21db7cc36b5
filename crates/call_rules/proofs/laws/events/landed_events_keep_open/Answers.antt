-- The law is the lemma.
use Rattle.call_rules.proofs.EventOpens.{landed-event}
use Rattle.call_rules.proofs.laws.events.landed_events_keep_open.Goals as goal

pub returns : goal.returns
returns c store scenario before r entries old new commit counter doubt made change object answered is is_open are_open distinct makes entered notes =
    landed-event store scenario before r answered entries old new are_open commit counter doubt made change object is is_open distinct makes entered notes
