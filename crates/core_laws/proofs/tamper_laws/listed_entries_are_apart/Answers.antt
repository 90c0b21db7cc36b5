use Rattle.core_laws.proofs.Listed.{listed_apart}
use Rattle.core_laws.proofs.tamper_laws.listed_entries_are_apart.Goals as goal

pub returns : goal.returns
returns c = listed_apart
