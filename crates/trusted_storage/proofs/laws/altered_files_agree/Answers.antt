use Rattle.trusted_storage.proofs.Altered.{altered_agree}
use Rattle.trusted_storage.proofs.laws.altered_files_agree.Goals as goal

pub returns : goal.returns
returns c = altered_agree
