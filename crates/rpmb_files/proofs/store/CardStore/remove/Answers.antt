use Rattle.rpmb_files.proofs.store.CardStore.remove.Goals as goal

pub returns-clause-cause : goal.returns-clause-cause
returns-clause-cause g c = rw (← c.self.view_is) (c.remove_object.ensures.cause c.self.invariant)
