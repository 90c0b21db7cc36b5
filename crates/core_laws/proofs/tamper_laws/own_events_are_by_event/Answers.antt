use Rattle.core_laws.proofs.Answers.{own_grows}
use Rattle.core_laws.proofs.tamper_laws.own_events_are_by_event.Goals as goal

pub returns : goal.returns
returns c = own_grows
