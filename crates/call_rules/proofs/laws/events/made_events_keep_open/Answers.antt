-- The law is the lemma.
use Rattle.call_rules.proofs.EventOpens.{made-event}
use Rattle.call_rules.proofs.laws.events.made_events_keep_open.Goals as goal

pub returns : goal.returns
returns c store scenario before r entries old new session number file commit counter call reply made change object answered is are_open distinct makes entered puts notes =
    made-event store scenario before r answered entries old new are_open session number file call reply notes commit counter made change object is distinct makes entered puts
