use Rattle.std.proofs.Common.{ℕ, List, subst}
use Rattle.std.specs.Prelude.{Contains}
use Rattle.object_slots.proofs.CacheEntries.{kept_some}
use Rattle.object_slots.proofs.page_cache.PageCache.copy_out.Goals as goal

pub returns-clause-same : goal.returns-clause-same
returns-clause-same c kept has =
    let was = kept_some c.self.inside.pages (λ page. page.items) c.in-Some.pages c.args.self.now c.in-Some.is c.self.view_is in
    subst (λ (l : List (ℕ × List ℕ)). Contains l kept) was (c.copy_page.ensures.same kept has)
