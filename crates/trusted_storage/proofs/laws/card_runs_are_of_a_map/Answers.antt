use Rattle.script_runner.proofs.CardMapRuns.{card_runs_are_of_a_map}
use Rattle.trusted_storage.proofs.laws.card_runs_are_of_a_map.Goals as goal

pub returns : goal.returns
returns g c = λ was source held sink. card_runs_are_of_a_map _ _
