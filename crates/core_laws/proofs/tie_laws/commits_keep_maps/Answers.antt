use Rattle.core_laws.proofs.MapsKept.{commits_keep}
use Rattle.core_laws.proofs.tie_laws.commits_keep_maps.Goals as goal

pub returns : goal.returns
returns c = commits_keep
