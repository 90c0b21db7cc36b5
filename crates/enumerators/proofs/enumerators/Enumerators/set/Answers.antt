use Rattle.std.proofs.Common.{◌==◌, subst, sym}
use Rattle.enumerators.specs.Places.{IsPlaceOf, IsNumbered}
use Rattle.enumerators.proofs.Numbering.{IsNumbered-set_value}
use Rattle.enumerators.proofs.enumerators.Enumerators.set.Goals as goal

pub invariant_of-self : goal.invariant_of-self
invariant_of-self c =
    let place = subst (λ table. IsPlaceOf c.args.number table.live c.in_ok-place.place) (sym c.self.view_is) c.in_ok-place.ensures.found in
    let live = c.self.inside.live.items in
    let next = c.self.inside.next in
    subst (λ es. IsNumbered 0 es next) (place.changed c.args.cursor) (IsNumbered-set_value (λ n. n == c.args.number) 0 live next c.args.cursor c.self.invariant)
