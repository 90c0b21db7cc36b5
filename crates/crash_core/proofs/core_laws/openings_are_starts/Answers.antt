use Rattle.crash_core.proofs.Openings.{openings_are_starts}
use Rattle.crash_core.proofs.core_laws.openings_are_starts.Goals as goal

pub returns : goal.returns
returns g c = openings_are_starts
