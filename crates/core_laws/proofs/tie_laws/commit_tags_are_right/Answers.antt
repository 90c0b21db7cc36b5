use Rattle.core_laws.proofs.RightTags.{commits_right}
use Rattle.core_laws.proofs.tie_laws.commit_tags_are_right.Goals as goal

pub returns : goal.returns
returns c = commits_right
