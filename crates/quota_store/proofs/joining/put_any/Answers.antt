use Rattle.std.proofs.Common.{sym, subst}
use Rattle.quota_store.specs.Halves.{AreHalves}
use Rattle.quota_store.proofs.KeptHalves.{halves_put_own}
use Rattle.quota_store.proofs.joining.put_any.Goals as goal

pub returns : goal.returns
returns g c =
    let half = c.in-Some.half in
    subst (AreHalves g.L.StoreName.store) (sym c.put_half.ensures) (halves_put_own g.L.StoreName.store c.args.places.now.items c.requires.halves half (c.requires.half half c.in-Some.is))
