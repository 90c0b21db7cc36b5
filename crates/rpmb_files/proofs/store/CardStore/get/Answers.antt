use Rattle.rpmb_files.proofs.store.CardStore.get.Goals as goal

pub returns-clause-cause : goal.returns-clause-cause
returns-clause-cause g c = rw (← c.self.view_is) (c.get_object.ensures.cause c.self.invariant)
