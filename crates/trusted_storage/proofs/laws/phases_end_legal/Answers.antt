use Rattle.trusted_storage.proofs.Ended.{phases_end}
use Rattle.trusted_storage.proofs.laws.phases_end_legal.Goals as goal

pub returns : goal.returns
returns c = phases_end
