-- The last quota of an application counts.
use Rattle.std.proofs.Common.{◌≡◌, ℕ, ◌+◌, ◌<◌, cond, List, length, take, get_or, sym, ap, ◌∙◌}
use Rattle.std.specs.Prelude.{if◌then◌else◌}
use Rattle.std.specs.Ordering.{is_eq}
use Rattle.std.specs.Str.{bytes_eq}
use Rattle.std.proofs.lemmas.List.Sums.{fold_more}
use Rattle.std.proofs.lemmas.Map.Text.{is_eq-slice_cmp}
use Rattle.tee_types.specs.Identifier.{bytes_cmp}
use Rattle.app_totals.specs.declared.numbers.Totals.{Totals}
use Rattle.app_quota.specs.declared.quotas.Quota.{Quota}
use Rattle.app_quota.specs.Quotas.{default_limit, quota_totals, limit_of}

-- one quota more
pub limit_more : (quotas : List Quota) (app : List ℕ) (i : ℕ) (quota : Quota) (old new : Totals) → i < length quotas → quota ≡ get_or quotas i quota → old ≡ limit_of (take i quotas) app
    → new ≡ cond (bytes_eq quota.app app) (quota_totals quota) old → new ≡ limit_of (take (i + 1) quotas) app
limit_more quotas app i quota old new lt found before after =
    after
    ∙ ap (λ b. cond b (quota_totals quota) old) (sym (is_eq-slice_cmp quota.app app))
    ∙ (λ k. step (before k) (found k))
    ∙ sym (fold_more step default_limit quotas i quota lt)
  where
    step : Totals → Quota → Totals
    step limit q = if is_eq (bytes_cmp q.app app) then quota_totals q else limit
