-- Which change of the directory moves an object into another file.
use Rattle.std.specs.Prelude.{◌≡◌, ℕ, List, Option, Some}
use Rattle.node_image.specs.References.{current_format}
use Rattle.dir_records.specs.declared.entry.DirEntry.{DirEntry}
use Rattle.crash_core.specs.EntryLists.{entry_at}
use Rattle.crash_core.specs.MigrationLaws.{moved_entry}

-- The entry is the one at the index, but for its file, and that is of the current format: the name, the sizes and the generation stay, and
-- the version and the hash of the root.
pub record IsEntryMove (entries : List (Option DirEntry)) (index : ℕ) (entry : DirEntry) : Type 0 where
  pub old : DirEntry
  pub at : entry_at entries index ≡ Some old
  pub same : entry ≡ moved_entry old entry.file current_format
