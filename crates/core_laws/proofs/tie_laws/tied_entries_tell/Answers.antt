use Rattle.core_laws.proofs.Told.{tied_tell}
use Rattle.core_laws.proofs.tie_laws.tied_entries_tell.Goals as goal

pub returns : goal.returns
returns c = tied_tell
