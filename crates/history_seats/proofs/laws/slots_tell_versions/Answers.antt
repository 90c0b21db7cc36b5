use Rattle.history_seats.proofs.KnownEntries.{version-told}
use Rattle.history_seats.proofs.laws.slots_tell_versions.Goals as goal

pub returns : goal.returns
returns c = version-told
