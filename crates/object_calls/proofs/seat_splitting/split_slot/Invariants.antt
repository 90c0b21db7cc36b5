use Rattle.object_calls.proofs.seat_splitting.split_slot.Given as goal

abbrev pub ghost-split_slot : goal.ghost-split_slot
ghost-split_slot g a = g.L.StoreName.store.mounted
