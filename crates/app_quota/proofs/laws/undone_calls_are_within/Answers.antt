use Rattle.app_quota.proofs.SessionLimits.{undone_calls_are_within}
use Rattle.app_quota.proofs.laws.undone_calls_are_within.Goals as goal

pub returns : goal.returns
returns c = undone_calls_are_within
