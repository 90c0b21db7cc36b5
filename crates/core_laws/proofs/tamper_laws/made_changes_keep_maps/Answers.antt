use Rattle.core_laws.proofs.MapCommits.{made_both}
use Rattle.core_laws.proofs.tamper_laws.made_changes_keep_maps.Goals as goal

pub returns : goal.returns
returns c = λ store scenario before x commit partial right. made_both store scenario before x partial commit right
