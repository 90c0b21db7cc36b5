use Rattle.core_laws.proofs.MapCommits.{doubtful_both}
use Rattle.core_laws.proofs.tamper_laws.doubtful_changes_keep_maps.Goals as goal

pub returns : goal.returns
returns c = λ store scenario before x commit partial right. doubtful_both store scenario before x partial commit right
