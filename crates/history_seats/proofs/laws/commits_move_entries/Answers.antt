use Rattle.history_seats.proofs.DoubtedEntries.{moved-entry}
use Rattle.history_seats.proofs.laws.commits_move_entries.Goals as goal

pub returns : goal.returns
returns c = moved-entry
