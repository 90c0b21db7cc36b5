use Rattle.core_laws.proofs.ReplayState.{spelled_under}
use Rattle.core_laws.proofs.tamper_laws.scenarios_are_verified.Goals as goal

pub returns : goal.returns
returns c = spelled_under
