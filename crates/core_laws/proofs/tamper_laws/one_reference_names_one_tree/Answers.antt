use Rattle.core_laws.proofs.SameTrees.{alike_trees}
use Rattle.core_laws.proofs.tamper_laws.one_reference_names_one_tree.Goals as goal

pub returns : goal.returns
returns c = λ root one other verified also. alike_trees root one other verified also
