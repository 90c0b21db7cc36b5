use Rattle.std.proofs.Common.{◌≡◌, ◌+◌, ℕ, Bool, true, false, cond, List, [], ◌∷◌, ◌++◌, subst, sym, arith}
use Rattle.enumerators.specs.Places.{IsNumbered}
use Rattle.enumerators.proofs.Numbering.{IsNumbered-append}
use Rattle.store_model.proofs.session.Session.open.Goals as goal

raised : {X : Type 0} (low : ℕ) (entries : List (ℕ × X)) (next : ℕ) → IsNumbered low entries next → IsNumbered low entries (next + 1)
raised low [] next h = omega arith
raised low (e ∷ entries) next h = (h.0, raised (e.0 + 1) entries next h.1)

pushed : {X : Type 0} (ok : Bool) (entries new : List (ℕ × X)) (next : ℕ) (x : X) → new ≡ cond ok (entries ++ (next, x) ∷ []) entries → IsNumbered 0 entries next → IsNumbered 0 new (next + 1)
pushed true entries new next x is h = subst (λ es. IsNumbered 0 es (next + 1)) (sym is) (IsNumbered-append 0 entries next x h)
pushed false entries new next x is h = subst (λ es. IsNumbered 0 es (next + 1)) (sym is) (raised 0 entries next h)

pub invariant_of-self : goal.invariant_of-self
invariant_of-self c = (
  omega (arith, c.self.invariant.0, c.push.ensures.capacity),
  pushed _ c.self.inside.handles.items _ c.self.inside.next_handle _ c.push.ensures.items c.self.invariant.1,
)
