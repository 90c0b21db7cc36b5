use Rattle.script_runner.proofs.CardQuiet.{quiet_card_runs_end}
use Rattle.script_runner.proofs.card_laws.quiet_card_runs_end.Goals as goal

pub returns : goal.returns
returns g c = λ was source held sink. quiet_card_runs_end _ _
