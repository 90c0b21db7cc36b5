use Rattle.core_laws.proofs.SessionSteps.{unchanged_stands}
use Rattle.core_laws.proofs.tamper_laws.unchanged_sessions_stand.Goals as goal

pub returns : goal.returns
returns c = unchanged_stands
