use Rattle.script_runner.proofs.CardCounts.{card_runs_count}
use Rattle.script_runner.proofs.card_laws.card_runs_count.Goals as goal

pub returns : goal.returns
returns g c = λ was source held sink. card_runs_count _ _
