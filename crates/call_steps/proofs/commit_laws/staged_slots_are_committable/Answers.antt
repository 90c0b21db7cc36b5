use Rattle.call_steps.proofs.CommittableSlots.{staged_committable}
use Rattle.call_steps.proofs.commit_laws.staged_slots_are_committable.Goals as goal

pub returns : goal.returns
returns c = staged_committable
