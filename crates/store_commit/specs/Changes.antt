-- A change of the directory that can be staged.
use Rattle.std.specs.Prelude.{◌<◌, List, Option, Some}
use Rattle.dir_records.specs.declared.entry.DirEntry.{DirEntry}
use Rattle.crash_core.specs.declared.change.EntryChange.{EntryChange}
use Rattle.crash_core.specs.declared.change.EntryChange.TheVariants.{Put, Clear}
use Rattle.dir_file.specs.EntryForms.{Fits}

-- The change can be staged: its index is one of the 256, and an entry that it puts has its form, and its name and its file for itself.
abbrev pub FitsIn : List (Option DirEntry) → EntryChange → Type 0
FitsIn entries (Put index entry) = Fits entries index (Some entry)
FitsIn entries (Clear index) = index < 256
