use Rattle.quota_store.proofs.QuotaHistories.{kept_calls_are_within}
use Rattle.quota_store.proofs.laws.kept_calls_are_within.Goals as goal

pub returns : goal.returns
returns g c = kept_calls_are_within
