use Rattle.core_laws.proofs.DueCommits.{due_commits}
use Rattle.core_laws.proofs.tie_laws.due_changes_are_commits.Goals as goal

pub returns : goal.returns
returns c = due_commits
