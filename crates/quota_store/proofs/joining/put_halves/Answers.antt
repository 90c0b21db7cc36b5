use Rattle.quota_store.proofs.KeptHalves.{halves_last}
use Rattle.quota_store.proofs.joining.put_halves.Goals as goal

pub put_any-requires-clause-half : goal.put_any-requires-clause-half
put_any-requires-clause-half g c =
    let l = c.loop-half in
    let last = halves_last g.L.StoreName.store l.left.items l.invariant.kept c.pop.new.self.items c.in-Some.half c.in-Some.ensures.items in
    λ half is. (last.1 half is).table

pub loop-half-preserved : goal.loop-half-preserved
loop-half-preserved g c =
    let l = c.loop-half in
    record {
      kept = (halves_last g.L.StoreName.store l.left.items l.invariant.kept c.pop.new.self.items c.in-Some.half c.in-Some.ensures.items).0;
      halves = c.put_any.ensures;
    }
