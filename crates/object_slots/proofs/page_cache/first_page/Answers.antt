use Rattle.object_slots.proofs.CacheEntries.{put_alone}
use Rattle.object_slots.proofs.page_cache.first_page.Goals as goal

pub returns : goal.returns
returns c = put_alone c.in-Ok.pages c.put_page.new.pages (λ page. page.items) c.args.k c.args.page _ c.in-Ok.ensures c.put_page.ensures
