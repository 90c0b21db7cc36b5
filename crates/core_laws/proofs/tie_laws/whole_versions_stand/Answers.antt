use Rattle.core_laws.proofs.WholeVersions.{whole_stand}
use Rattle.core_laws.proofs.tie_laws.whole_versions_stand.Goals as goal

pub returns : goal.returns
returns c = whole_stand
