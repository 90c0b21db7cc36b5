-- The law is the lemma.
use Rattle.call_rules.proofs.SharedFiles.{open-same}
use Rattle.call_rules.proofs.laws.sharing.files_are_open_as_names.Goals as goal

pub returns : goal.returns
returns c = open-same
