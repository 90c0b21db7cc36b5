use Rattle.core_laws.proofs.Rewrites.{truncations_stand}
use Rattle.core_laws.proofs.tamper_laws.truncations_stand_or_stray.Goals as goal

pub returns : goal.returns
returns c = truncations_stand
