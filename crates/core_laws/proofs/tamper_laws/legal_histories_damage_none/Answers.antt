use Rattle.core_laws.proofs.UndamagedReplays.{legal_histories_damage_none}
use Rattle.core_laws.proofs.tamper_laws.legal_histories_damage_none.Goals as goal

pub returns : goal.returns
returns c = legal_histories_damage_none
