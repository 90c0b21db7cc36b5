use Rattle.object_file.proofs.object.ObjectFile.settle.Goals as goal

pub returns-clause-firm : goal.returns-clause-firm
returns-clause-firm g c = rw (← c.self.view_is) (c.settle.ensures.firm)

pub returns-clause-next_firm : goal.returns-clause-next_firm
returns-clause-next_firm g c = rw (← c.self.view_is) (c.settle.ensures.next_firm)
