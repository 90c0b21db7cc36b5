-- What applications may have.
use Rattle.std.specs.Prelude.{ℕ, if◌then◌else◌, List, fold}
use Rattle.std.specs.Ordering.{is_eq}
use Rattle.tee_types.specs.Identifier.{bytes_cmp}
use Rattle.app_totals.specs.declared.numbers.Totals.{Totals}
use Rattle.app_quota.specs.declared.quotas.Quota.{Quota}

-- what an application may have that has no quota
abbrev pub default_limit : Totals
default_limit = record { objects = 16; bytes = 16777216 }

abbrev pub quota_totals : Quota → Totals
quota_totals quota = record { objects = quota.objects; bytes = quota.bytes }

-- what an application may have: the last quota of an application counts
abbrev pub limit_of : List Quota → List ℕ → Totals
limit_of quotas app = fold (λ limit quota. if is_eq (bytes_cmp quota.app app) then quota_totals quota else limit) default_limit quotas
