use Rattle.core_laws.proofs.Unmasked.{no_other}
use Rattle.core_laws.proofs.tamper_laws.masks_on_blocks_show_no_other.Goals as goal

pub returns : goal.returns
returns c = no_other
