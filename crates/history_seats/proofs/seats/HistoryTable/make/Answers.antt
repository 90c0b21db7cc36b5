use Rattle.history_seats.proofs.Keeping.{begins}
use Rattle.history_seats.proofs.seats.HistoryTable.make.Goals as goal

pub of_words-requires : goal.of_words-requires
of_words-requires c = begins
