use Rattle.std.proofs.Common.{◌==◌, subst, sym}
use Rattle.enumerators.specs.Places.{IsPlaceOf, IsNumbered}
use Rattle.enumerators.proofs.Numbering.{IsNumbered-set_value}
use Rattle.store_model.proofs.session.Session.replace.Goals as goal

pub invariant_of-self : goal.invariant_of-self
invariant_of-self c =
    let place = subst (λ session. IsPlaceOf c.args.number session.handles c.in-Some.place) (sym c.self.view_is) c.in-Some.ensures.found in
    let handles = c.self.inside.handles.items in
    let next = c.self.inside.next_handle in (
      c.self.invariant.0,
      subst (λ es. IsNumbered 0 es next) (place.changed c.args.handle)
          (IsNumbered-set_value (λ n. n == c.args.number) 0 handles next c.args.handle c.self.invariant.1),
    )
