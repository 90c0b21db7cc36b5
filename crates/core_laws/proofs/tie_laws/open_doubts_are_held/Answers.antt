use Rattle.core_laws.proofs.LastDoubts.{doubts_held}
use Rattle.core_laws.proofs.tie_laws.open_doubts_are_held.Goals as goal

pub returns : goal.returns
returns c = doubts_held
