use Rattle.core_laws.proofs.Rewrites.{writes_stand}
use Rattle.core_laws.proofs.tamper_laws.writes_stand_or_stray.Goals as goal

pub returns : goal.returns
returns c = writes_stand
