use Rattle.quota_store.proofs.QuotaHistories.{kept_events_stay_within}
use Rattle.quota_store.proofs.laws.kept_events_stay_within.Goals as goal

pub returns : goal.returns
returns g c = kept_events_stay_within
