use Rattle.run_acts.proofs.QuietPhases.{openings_stay_quiet}
use Rattle.run_acts.proofs.device_laws.openings_stay_quiet.Goals as goal

pub returns : goal.returns
returns c = openings_stay_quiet
