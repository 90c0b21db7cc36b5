use Rattle.history_seats.proofs.DoubtedEntries.{landed_entry, none_left}
use Rattle.history_seats.proofs.laws.landings_bring_named.Goals as goal

pub returns : goal.returns
returns c = λ file generation mounted records commit doubt other has. landed_entry file generation mounted records (none_left file generation mounted records commit doubt other) has
