use Rattle.core_laws.proofs.Openings.{opening_both}
use Rattle.core_laws.proofs.tamper_laws.openings_are_in_step.Goals as goal

pub returns : goal.returns
returns c = λ store scenario z opens apart. opening_both store scenario opens apart z
