use Rattle.core_laws.proofs.LegalCommits.{commits_legal}
use Rattle.core_laws.proofs.tie_laws.commits_are_legal.Goals as goal

pub returns : goal.returns
returns c = commits_legal
