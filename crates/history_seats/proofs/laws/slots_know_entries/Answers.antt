use Rattle.history_seats.proofs.KnownEntries.{entry_known}
use Rattle.history_seats.proofs.laws.slots_know_entries.Goals as goal

pub returns : goal.returns
returns c = λ gate slot v fits known. entry_known gate slot fits v known
