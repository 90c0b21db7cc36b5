use Rattle.std.proofs.Common.{◌≡◌, ◌+◌, None, subst, sym}
use Rattle.enumerators.specs.Places.{IsNumbered}
use Rattle.enumerators.specs.Enumeration.{cursor_at}
use Rattle.enumerators.proofs.Numbering.{IsNumbered-append, lookup-next}
use Rattle.enumerators.proofs.enumerators.Enumerators.add.Goals as goal

pub invariant_of-self-2 : goal.invariant_of-self-2
invariant_of-self-2 c =
    let next = c.self.inside.next in
    subst (λ es. IsNumbered 0 es (next + 1)) (sym c.in_ok-push.ensures.items) (IsNumbered-append 0 c.self.inside.live.items next _ c.self.invariant)

pub returns-clause-fresh : goal.returns-clause-fresh
returns-clause-fresh c =
    let next = c.self.inside.next in
    subst (λ table. cursor_at table next ≡ None) c.self.view_is (lookup-next 0 c.self.inside.live.items next c.self.invariant)
