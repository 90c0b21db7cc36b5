use Rattle.trusted_storage.proofs.Holding.{cuts_keep}
use Rattle.trusted_storage.proofs.laws.cuts_keep.Goals as goal

pub returns : goal.returns
returns c = cuts_keep
