-- Behind the lock every file that the card and the directory name is of the current format.
use Rattle.std.specs.Prelude.{◌≡◌, Option, IfSome}
use Rattle.node_image.specs.References.{current_format}
use Rattle.crash_core.specs.declared.change.EntryChange.{EntryChange}
use Rattle.crash_core.specs.declared.change.EntryChange.TheVariants.{Clear, Put}
use Rattle.crash_core.specs.EntryLists.{AreCurrent}
use Rattle.store_commit.specs.View.{DirView}
use Rattle.crash_core.specs.declared.change.DoubtedChange.{DoubtedChange}

-- an entry that the change puts names a file of the current format
abbrev pub PutsCurrent : EntryChange → Type 0
PutsCurrent (Put index e) = e.format ≡ current_format
PutsCurrent (Clear index) = Unit {0}

-- the directory's file, the files of the entries, and the one that the commit in doubt puts
pub record AreFilesCurrent (dir : DirView) (doubt : Option DoubtedChange) : Type 0 where
  pub root : dir.root.format ≡ current_format
  pub entries : AreCurrent dir.entries
  pub put : IfSome doubt (λ d. PutsCurrent d.change)
