use Rattle.freshness_laws.proofs.Pages.{trees_agree}
use Rattle.freshness_laws.proofs.laws.read_trees_agree.Goals as goal

pub returns : goal.returns
returns c = trees_agree
