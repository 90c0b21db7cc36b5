-- The law is the lemma.
use Rattle.call_rules.proofs.DroppedHandles.{exactly}
use Rattle.call_rules.proofs.laws.opens.drops_take_one_record.Goals as goal

pub returns : goal.returns
returns c entries old new sessions i number are_open drops = exactly entries old new sessions are_open i number drops
