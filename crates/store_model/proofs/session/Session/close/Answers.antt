use Rattle.std.proofs.Common.{◌==◌, ◌≤◌, ◌∙◌, subst, sym}
use Rattle.enumerators.specs.Places.{IsPlaceOf, IsNumbered}
use Rattle.enumerators.proofs.Numbering.{IsNumbered-remove_entry}
use Rattle.store_model.proofs.session.Session.close.Goals as goal

pub invariant_of-self : goal.invariant_of-self
invariant_of-self c =
    let place = subst (λ session. IsPlaceOf c.args.number session.handles c.in-Some.place) (sym c.self.view_is) c.in-Some.ensures.found in
    let handles = c.self.inside.handles.items in
    let next = c.self.inside.next_handle in (
      subst (λ n. 1024 ≤ n) (sym c.remove-closed.ensures.capacity) c.self.invariant.0,
      subst (λ es. IsNumbered 0 es next) (place.removed ∙ sym c.remove-closed.ensures.items)
          (IsNumbered-remove_entry (λ n. n == c.args.number) 0 handles next c.self.invariant.1),
    )
