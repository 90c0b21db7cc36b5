use Rattle.history_seats.specs.Changes.{landing_of}
use Rattle.history_seats.proofs.seats.GateSeat.append_landed.Given as goal

abbrev pub ghosts-add_landing : goal.ghosts-add_landing
ghosts-add_landing a = record { entry = landing_of a.commit }
