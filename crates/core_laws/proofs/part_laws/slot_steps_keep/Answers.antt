use Rattle.core_laws.proofs.SlotRuns.{run_holds}
use Rattle.core_laws.proofs.part_laws.slot_steps_keep.Goals as goal

pub returns : goal.returns
returns c = λ keys user old new h s. run_holds user keys old s.steps new h s.run
