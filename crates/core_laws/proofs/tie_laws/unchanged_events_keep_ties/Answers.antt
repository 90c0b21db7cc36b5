use Rattle.core_laws.proofs.QuietTies.{unchanged_ties}
use Rattle.core_laws.proofs.tie_laws.unchanged_events_keep_ties.Goals as goal

pub returns : goal.returns
returns c = unchanged_ties
