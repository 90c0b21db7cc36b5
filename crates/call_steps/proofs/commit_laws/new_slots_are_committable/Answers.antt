use Rattle.call_steps.proofs.NewFiles.{new_committable}
use Rattle.call_steps.proofs.commit_laws.new_slots_are_committable.Goals as goal

pub returns : goal.returns
returns c = new_committable
