-- The entry that a new object takes.
use Rattle.std.specs.Prelude.{List, Option, Some, None}
use Rattle.store_model.specs.declared.name.ObjectName.{ObjectName}
use Rattle.dir_records.specs.declared.entry.DirEntry.{DirEntry}
use Rattle.call_rules.specs.declared.decision.NewPlace.{NewPlace}
use Rattle.call_rules.specs.declared.decision.NewPlace.TheVariants.{Replaces, Adds}
use Rattle.dir_index.specs.EntryNames.{IsEntryNamed, IsFirstFree}

-- The entry of that name; or no entry has the name, and the first free one.
abbrev pub IsNewPlace : List (Option DirEntry) → ObjectName → NewPlace → Type 0
IsNewPlace entries name (Replaces held) = IsEntryNamed entries name (Some held)
IsNewPlace entries name (Adds index) = IsEntryNamed entries name None × IsFirstFree entries (Some index)
