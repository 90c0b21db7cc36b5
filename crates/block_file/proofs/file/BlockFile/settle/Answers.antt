use Rattle.block_file.proofs.file.BlockFile.settle.Goals as goal

pub returns-clause-firm : goal.returns-clause-firm
returns-clause-firm g c = rw (← c.self.view_is) (c.settle.ensures.firm)
