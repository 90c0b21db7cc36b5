use Rattle.core_laws.proofs.Undamaged.{undamaged_ends}
use Rattle.core_laws.proofs.tamper_laws.undamaged_ends_clash.Goals as goal

pub returns : goal.returns
returns c = undamaged_ends
