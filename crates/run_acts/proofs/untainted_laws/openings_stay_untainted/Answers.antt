use Rattle.run_acts.proofs.Untainted.{openings_stay_untainted}
use Rattle.run_acts.proofs.untainted_laws.openings_stay_untainted.Goals as goal

pub returns : goal.returns
returns c = openings_stay_untainted
