use Rattle.std.proofs.Common.{subst, sym}
use Rattle.enumerators.specs.Places.{AreRising}
use Rattle.enumerators.proofs.Searches.{AreRising-numbered}
use Rattle.store_model.proofs.session.Session.place.Goals as goal

pub place_of-requires : goal.place_of-requires
place_of-requires c =
    subst AreRising (sym c.as_slice.ensures.value) (AreRising-numbered 0 c.self.inside.handles.items c.self.inside.next_handle c.self.invariant.1)
