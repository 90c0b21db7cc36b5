use Rattle.history_seats.proofs.GivenVersions.{created-right}
use Rattle.history_seats.proofs.laws.creates_name_versions.Goals as goal

pub returns : goal.returns
returns c = created-right
