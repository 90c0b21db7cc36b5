-- A fault without the computed tag.
use Rattle.std.specs.Prelude.{[]}
use Rattle.htree_file.specs.declared.fault.TreeFault.{TreeFault}
use Rattle.htree_file.specs.declared.fault.TreeFault.TheVariants.{BadTag}

abbrev pub untagged_tree : TreeFault → TreeFault
untagged_tree (BadTag k want found) = BadTag k want []
untagged_tree fault = fault
