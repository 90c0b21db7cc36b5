use Rattle.rpmb_files.proofs.store.CardStore.put.Goals as goal

pub returns-clause-cause : goal.returns-clause-cause
returns-clause-cause g c = rw (← c.self.view_is) (c.put_object.ensures.cause c.self.invariant)
