-- The law is the lemma.
use Rattle.call_rules.proofs.EventOpens.{doubtful-event}
use Rattle.call_rules.proofs.laws.events.doubtful_events_keep_open.Goals as goal

pub returns : goal.returns
returns c store scenario before r entries old new session number file commit call reply answered is are_open notes =
    doubtful-event store scenario before r answered entries old new are_open session number file call reply notes commit is
