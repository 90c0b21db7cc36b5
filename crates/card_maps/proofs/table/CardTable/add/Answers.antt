use Rattle.card_maps.proofs.table.CardTable.add.Goals as goal

pub returns-in-Some-clause-bytes : goal.returns-in-Some-clause-bytes
returns-in-Some-clause-bytes c = c.fits-block

pub returns-clause-bytes : goal.returns-clause-bytes
returns-clause-bytes c = c.fits-block
