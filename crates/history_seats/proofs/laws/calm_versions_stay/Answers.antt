use Rattle.history_seats.proofs.KnownEntries.{calm-stays}
use Rattle.history_seats.proofs.laws.calm_versions_stay.Goals as goal

pub returns : goal.returns
returns c = λ gate slot version fits is. calm-stays gate slot fits version is
