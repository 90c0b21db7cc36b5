use Rattle.core_laws.proofs.RightTags.{unchanged_right}
use Rattle.core_laws.proofs.tie_laws.unchanged_tags_are_right.Goals as goal

pub returns : goal.returns
returns c = unchanged_right
