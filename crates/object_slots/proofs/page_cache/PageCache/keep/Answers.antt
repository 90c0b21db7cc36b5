use Rattle.std.proofs.Common.{◌≡◌, ◌⊎◌, inr, ℕ, List, subst}
use Rattle.std.specs.Prelude.{Contains}
use Rattle.object_slots.proofs.CacheEntries.{kept_some}
use Rattle.object_slots.proofs.page_cache.PageCache.keep.Goals as goal

pub returns : goal.returns
returns c kept has =
    let was = kept_some c.self.inside.pages (λ page. page.items) c.in-Some.pages c.args.self.now c.in-Some.is c.self.view_is in
    subst (λ (l : List (ℕ × List ℕ)). Contains l kept ⊎ (kept ≡ (c.args.k, c.args.page.items))) was (c.put_page.ensures kept has)

pub returns-in_default : goal.returns-in_default
returns-in_default c kept has = inr (c.first_page.ensures kept has)
