use Rattle.object_slots.proofs.CacheEntries.{put_pages}
use Rattle.object_slots.proofs.page_cache.put_page.Goals as goal

pub returns : goal.returns
returns c = put_pages c.args.pages.now c.put.new.self (λ page. page.items) c.args.k c.args.page c.put.result c.put.ensures.entries c.put.ensures.err
