use Rattle.history_seats.specs.Changes.{record_of, view_in}
use Rattle.history_seats.proofs.seats.GateSeat.append.Given as goal

abbrev pub ghosts-append_as : goal.ghosts-append_as
ghosts-append_as g a = record { entry = record_of a.event (view_in a.slot) g.versions }
