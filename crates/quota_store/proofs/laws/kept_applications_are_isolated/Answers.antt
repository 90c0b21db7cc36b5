use Rattle.quota_store.proofs.QuotaHistories.{kept_applications_are_isolated}
use Rattle.quota_store.proofs.laws.kept_applications_are_isolated.Goals as goal

pub returns : goal.returns
returns g c = kept_applications_are_isolated
