-- The law is the lemma.
use Rattle.call_rules.proofs.EventOpens.{unchanged-event}
use Rattle.call_rules.proofs.laws.events.unchanged_events_keep_open.Goals as goal

pub returns : goal.returns
returns c store scenario before r entries old new session number file call reply answered is within are_open opened notes =
    unchanged-event store scenario before r answered entries old new are_open session number file call reply notes is within opened
