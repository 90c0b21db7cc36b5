use Rattle.core_laws.proofs.Unmasked.{shows_no_clash}
use Rattle.core_laws.proofs.tamper_laws.unmasked_files_show_no_clash.Goals as goal

pub returns : goal.returns
returns c = shows_no_clash
