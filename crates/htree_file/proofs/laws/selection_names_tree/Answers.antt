use Rattle.htree_file.proofs.Loadings.{selection_is}
use Rattle.htree_file.proofs.laws.selection_names_tree.Goals as goal

pub returns : goal.returns
returns c = selection_is
