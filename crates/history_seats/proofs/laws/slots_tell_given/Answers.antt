use Rattle.history_seats.proofs.KnownEntries.{given-told}
use Rattle.history_seats.proofs.laws.slots_tell_given.Goals as goal

pub returns : goal.returns
returns c = λ gate slot fits. given-told gate slot fits slot.generation
