use Rattle.call_steps.proofs.AnswerSteps.{answers_are_steps}
use Rattle.call_steps.proofs.core_move_laws.answers_are_steps.Goals as goal

pub returns : goal.returns
returns g c = answers_are_steps g.row.F.Denot g.row.R.Denot
