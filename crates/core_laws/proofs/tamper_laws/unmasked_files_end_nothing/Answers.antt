use Rattle.core_laws.proofs.Unmasked.{ends_nothing}
use Rattle.core_laws.proofs.tamper_laws.unmasked_files_end_nothing.Goals as goal

pub returns : goal.returns
returns c = ends_nothing
