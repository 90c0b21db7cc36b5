use Rattle.core_laws.proofs.Answers.{answers_grow}
use Rattle.core_laws.proofs.tamper_laws.answers_are_by_event.Goals as goal

pub returns : goal.returns
returns c = answers_grow
