use Rattle.std.proofs.Common.{sym, subst, arith}
use Rattle.store_model.specs.Object.{AreNamed}
use Rattle.store_model.proofs.Maps.{AreNamed-remove_entry}
use Rattle.store_model.proofs.state.State.delete.Goals as goal

pub invariant_of-self : goal.invariant_of-self
invariant_of-self c = (
  omega (arith, c.remove-deleted.ensures.len, c.self.invariant.0),
  subst AreNamed (sym c.remove-deleted.ensures.entries) (AreNamed-remove_entry _ c.self.inside.objects.entries c.self.invariant.1),
)
