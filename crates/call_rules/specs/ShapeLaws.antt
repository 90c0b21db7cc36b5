-- What the entries tell of a map of their shape.
use Rattle.std.specs.Prelude.{◌≡◌, ℕ, ◌≤◌, true, is_some, List, length, Option}
use Rattle.std.specs.List.{count_by}
use Rattle.store_model.specs.declared.name.ObjectName.{ObjectName}
use Rattle.store_model.specs.Object.{ObjectMap, holds}
use Rattle.dir_records.specs.declared.entry.DirEntry.{DirEntry}
use Rattle.core_laws.specs.EntryLists.{AreDistinct}
use Rattle.core_laws.specs.EntryChanges.{IsEntryOf}
use Rattle.app_totals.specs.Totals.{totals_of}
use Rattle.app_totals.specs.EntryTotals.{entry_totals}
use Rattle.call_rules.specs.Shapes.{HasShape}

-- There are as many objects as entries that are not free.
abbrev pub ObjectsAreEntries : Type 0
ObjectsAreEntries =
    (entries : List (Option DirEntry)) (objects : ObjectMap) → AreDistinct entries → HasShape entries objects
    → length objects ≡ count_by is_some entries

-- There are at most as many objects as places of entries.
abbrev pub ObjectsFitEntries : Type 0
ObjectsFitEntries =
    (entries : List (Option DirEntry)) (objects : ObjectMap) → AreDistinct entries → HasShape entries objects → length objects ≤ length entries

-- A name that is held is that of an entry.
abbrev pub HeldNamesAreListed : Type 0
HeldNamesAreListed =
    (entries : List (Option DirEntry)) (objects : ObjectMap) (name : ObjectName) → HasShape entries objects
    → holds objects name ≡ true → (index : ℕ) × IsEntryOf entries index name

-- How many objects an application has, and how many bytes of data, is told by the entries.
abbrev pub TotalsAreOfEntries : Type 0
TotalsAreOfEntries =
    (entries : List (Option DirEntry)) (objects : ObjectMap) (app : List ℕ) → AreDistinct entries → HasShape entries objects
    → totals_of app objects ≡ entry_totals app entries
