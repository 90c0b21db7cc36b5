-- The law is the lemma.
use Rattle.call_rules.proofs.SharedFiles.{allows-same}
use Rattle.call_rules.proofs.laws.sharing.files_allow_as_names.Goals as goal

pub returns : goal.returns
returns c = allows-same
