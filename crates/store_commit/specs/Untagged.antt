-- A fault without the computed tag.
use Rattle.std.specs.Prelude.{◌≡◌, []}
use Rattle.crash_core.specs.declared.fault.DirFault.TheVariants.{Tree}
use Rattle.htree_file.specs.declared.fault.TreeFault.TheVariants.{BadTag}
use Rattle.htree_file.specs.Untagged.{untagged_tree}
use Rattle.store_commit.specs.declared.fault.MountFault.{MountFault}
use Rattle.store_commit.specs.declared.fault.MountFault.TheVariants.{Directory}

abbrev pub untagged : MountFault → MountFault
untagged (Directory (Tree fault)) = Directory (Tree (untagged_tree fault))
untagged fault = fault

-- the fault has no computed tag
abbrev pub IsUntagged : MountFault → Type 0
IsUntagged (Directory (Tree (BadTag block want found))) = found ≡ []
IsUntagged fault = Unit {0}
