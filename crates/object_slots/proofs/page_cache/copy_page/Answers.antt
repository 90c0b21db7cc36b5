use Rattle.std.proofs.Common.{◌≡◌, ◌∙◌, ℕ, List, get_or, take, ap, arith}
use Rattle.std.proofs.lemmas.List.{take_all}
use Rattle.page_bytes.specs.Rewriting.{given_byte}
use Rattle.object_slots.proofs.CacheEntries.{found_page, promoted_pages}
use Rattle.object_slots.proofs.page_cache.copy_page.Goals as goal

pub returns-clause-same : goal.returns-clause-same
returns-clause-same c = promoted_pages c.args.pages.now.entries (λ page. page.items) c.args.k c.args.pages.now.cap c.promote.new.self c.promote.ensures.entries

pub returns-clause-hit : goal.returns-clause-hit
returns-clause-hit c =
    let page = c.in-Some.page.now in
    let chunk : List ℕ = c.in-Some-first_chunk.page.now in
    let front : chunk ≡ take 4096 page.items = c.in-Some-first_chunk.ensures.cases.same ∙ ap (take 4096) c.deref.ensures.value in
    record {
      page = page.items;
      kept = found_page c.args.pages.now.entries (λ v. v.items) c.args.k page c.in-Some.ensures;
      given = λ long i.
          let whole : chunk ≡ page.items = front ∙ take_all 4096 page.items (omega (arith, long)) in
          c.copy_out.ensures i ∙ ap (λ (p : List ℕ). given_byte c.args.range c.args.k p i (get_or c.args.into.now i 0)) whole;
    }
