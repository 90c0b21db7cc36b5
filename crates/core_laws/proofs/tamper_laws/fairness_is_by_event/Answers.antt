use Rattle.core_laws.proofs.Answers.{fair_grows}
use Rattle.core_laws.proofs.tamper_laws.fairness_is_by_event.Goals as goal

pub returns : goal.returns
returns c = fair_grows
