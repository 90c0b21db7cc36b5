use Rattle.history_seats.proofs.seats.GateSeat.split_slot.Given as goal

abbrev pub ghosts-split_slot_as : goal.ghosts-split_slot_as
ghosts-split_slot_as g a = record { mounted = g.mounted; file = a.file; generation = a.generation }
