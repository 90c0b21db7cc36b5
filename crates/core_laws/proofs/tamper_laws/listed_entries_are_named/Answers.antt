use Rattle.core_laws.proofs.Listed.{listed_named}
use Rattle.core_laws.proofs.tamper_laws.listed_entries_are_named.Goals as goal

pub returns : goal.returns
returns c = listed_named
