use Rattle.call_steps.proofs.Shown.{handed_slots_show}
use Rattle.call_steps.proofs.core_move_laws.handed_slots_show.Goals as goal

pub returns : goal.returns
returns c = handed_slots_show
