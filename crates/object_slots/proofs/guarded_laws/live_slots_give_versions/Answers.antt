use Rattle.object_slots.proofs.ChangeAnswers.{live_slots}
use Rattle.object_slots.proofs.guarded_laws.live_slots_give_versions.Goals as goal

pub returns : goal.returns
returns c = live_slots
