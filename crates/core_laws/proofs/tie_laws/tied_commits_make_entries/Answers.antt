use Rattle.core_laws.proofs.Told.{tied_make}
use Rattle.core_laws.proofs.tie_laws.tied_commits_make_entries.Goals as goal

pub returns : goal.returns
returns c = tied_make
