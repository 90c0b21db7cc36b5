use Rattle.core_laws.proofs.ListedEntries.{commits_keep_listed}
use Rattle.core_laws.proofs.part_laws.commits_keep_listed.Goals as goal

pub returns : goal.returns
returns c = commits_keep_listed
