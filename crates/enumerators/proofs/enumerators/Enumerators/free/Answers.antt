use Rattle.std.proofs.Common.{◌==◌, ◌∙◌, subst, sym, ap}
use Rattle.std.specs.Map.{lookup}
use Rattle.enumerators.specs.Places.{IsPlaceOf, IsNumbered}
use Rattle.enumerators.proofs.Numbering.{IsNumbered-remove_entry, lookup-removed}
use Rattle.enumerators.proofs.enumerators.Enumerators.free.Goals as goal

pub invariant_of-self : goal.invariant_of-self
invariant_of-self c =
    let place = subst (λ table. IsPlaceOf c.args.number table.live c.in_ok-place.place) (sym c.self.view_is) c.in_ok-place.ensures.found in
    let next = c.self.inside.next in
    subst (λ es. IsNumbered 0 es next) (place.removed ∙ sym c.remove.ensures.items) (IsNumbered-remove_entry (λ n. n == c.args.number) 0 c.self.inside.live.items next c.self.invariant)

pub returns-clause-gone : goal.returns-clause-gone
returns-clause-gone c =
    let place = subst (λ table. IsPlaceOf c.args.number table.live c.in_ok-place.place) (sym c.self.view_is) c.in_ok-place.ensures.found in
    let next = c.self.inside.next in
    ap (lookup (λ n. n == c.args.number)) (c.remove.ensures.items ∙ sym place.removed) ∙ lookup-removed 0 c.self.inside.live.items next c.args.number c.self.invariant
