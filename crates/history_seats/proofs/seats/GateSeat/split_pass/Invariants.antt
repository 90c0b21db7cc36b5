use Rattle.history_seats.proofs.seats.GateSeat.split_pass.Given as goal

abbrev pub ghosts-split_pass_as : goal.ghosts-split_pass_as
ghosts-split_pass_as g a = record { mounted = g.mounted; session = a.session }
