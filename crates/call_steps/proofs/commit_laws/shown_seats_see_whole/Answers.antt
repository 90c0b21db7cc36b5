-- The lemma is the law.
use Rattle.call_steps.proofs.CommittableSlots.{shown_see}
use Rattle.call_steps.proofs.commit_laws.shown_seats_see_whole.Goals as goal

pub returns : goal.returns
returns c = shown_see
